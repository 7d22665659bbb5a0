pub mod Lie
pub mod Ordered
pub mod Laid
