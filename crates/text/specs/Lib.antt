pub mod Faults
pub mod Prints
pub mod Tells
pub mod Texts
