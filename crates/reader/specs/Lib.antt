pub mod Bound
pub mod Entries
pub mod Located
pub mod Reads
