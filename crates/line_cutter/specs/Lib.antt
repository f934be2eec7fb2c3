pub mod Types
pub mod Cutting
pub mod Laws
pub mod Rows
pub mod Search
pub mod Ways
pub mod Opposed
