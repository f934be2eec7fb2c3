pub mod Stored
pub mod Shelves
pub mod First
pub mod Kept
pub mod Changes
pub mod Entries
pub mod Reading
pub mod Alone
