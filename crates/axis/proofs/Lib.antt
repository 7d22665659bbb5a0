pub mod Walks
pub mod Tables
pub mod Distances
pub mod Asked
