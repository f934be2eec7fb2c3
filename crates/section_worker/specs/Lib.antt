pub mod Keeping
pub mod Turn
