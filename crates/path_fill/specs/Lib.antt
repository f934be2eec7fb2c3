pub mod Types
pub mod Filling
pub mod Laws
pub mod Search
