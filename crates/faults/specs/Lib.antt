pub mod Carried
pub mod Numbers
