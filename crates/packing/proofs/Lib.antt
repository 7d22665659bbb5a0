mod Above
mod Climbing
mod Starts
