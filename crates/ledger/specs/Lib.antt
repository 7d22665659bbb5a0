pub mod Lengths
pub mod Means
pub mod Ranges
