pub mod Nodes
mod Entering
mod Picks
mod Starting
