pub mod Meaning
pub mod Questions
pub mod Asks
pub mod Distance
pub mod Theory
