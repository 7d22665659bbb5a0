mod Axes
mod Bounds
mod Kept
mod Lines
mod Mends
