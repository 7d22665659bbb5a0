pub mod Cells
pub mod Lists
pub mod Mending
pub mod Ways
