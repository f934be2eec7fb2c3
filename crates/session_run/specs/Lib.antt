pub mod Turns
pub mod Actors
pub mod Acting
pub mod Ahead
