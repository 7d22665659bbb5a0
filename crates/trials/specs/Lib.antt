pub mod Trials
pub mod Boards
