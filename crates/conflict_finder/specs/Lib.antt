pub mod Types
pub mod Found
pub mod Runs
pub mod ByBlock
pub mod Sweep
pub mod ByNumber
pub mod Laws
