pub mod Binding
pub mod Calling
pub mod Locating
pub mod Offsets
pub mod Reading
