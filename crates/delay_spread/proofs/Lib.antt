pub mod Floors
pub mod Later
pub mod Greater
pub mod Tied
pub mod Tally
pub mod SomeSpread
pub mod Unique
