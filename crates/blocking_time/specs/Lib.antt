pub mod Mark
pub mod Moments
pub mod Blocking
pub mod Law
