pub mod Readings
pub mod Past
pub mod Keeps
pub mod Turns
mod TurnExamples
