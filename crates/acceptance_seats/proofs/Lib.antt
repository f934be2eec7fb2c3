pub mod Agreeing
pub mod Holding
pub mod Keeping
pub mod Starting
