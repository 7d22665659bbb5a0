pub mod Bodies
pub mod Bytes
pub mod Writes
