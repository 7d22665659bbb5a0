pub mod Grown
pub mod Least
pub mod Settled
