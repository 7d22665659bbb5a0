pub mod Fills
pub mod Put
