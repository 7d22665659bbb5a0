pub mod Fields
pub mod Stays
pub mod Walked
pub mod Told
