pub mod Ranges
pub mod Windows
pub mod Decided
