pub mod Open
mod Sounds
