pub mod Rows
pub mod Walk
pub mod Table
pub mod Starts
pub mod Numbers
