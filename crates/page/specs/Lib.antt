pub mod Fills
pub mod Pages
