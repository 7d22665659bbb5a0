pub mod Letters
pub mod Overlaps
pub mod Order
pub mod Arranged
