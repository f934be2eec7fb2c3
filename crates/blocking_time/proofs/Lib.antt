pub mod Counts
pub mod Places
pub mod Stops
pub mod Clearing
pub mod Bounds
pub mod Uses
