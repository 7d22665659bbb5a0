pub mod Stays
pub mod Journal
pub mod Asks
pub mod Tables
pub mod Steps
pub mod Made
pub mod Plans
