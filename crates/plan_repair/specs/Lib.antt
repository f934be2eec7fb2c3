pub mod Kept
pub mod Left
pub mod Origin
pub mod Renewed
pub mod Held
