pub mod Descent
pub mod Packs
