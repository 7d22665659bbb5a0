pub mod Faults
pub mod Letters
pub mod Stacks
