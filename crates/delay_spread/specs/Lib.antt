pub mod Types
pub mod Spreading
pub mod Laws
