pub mod Divided
pub mod Widened
pub mod Longest
