pub mod Holding
pub mod Judged
pub mod Making
