mod Totals
mod Told
mod Steps
mod Ends
mod Ahead
