pub mod Chain
pub mod Checked
pub mod Parts
