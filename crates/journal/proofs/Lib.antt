pub mod Asked
pub mod Entered
pub mod Lined
pub mod Planned
