mod Examples
mod EditExamples
mod NameTests
mod Filled
pub mod Numbers
pub mod Lists
pub mod Collected
pub mod NameOrder
pub mod NameAdded
pub mod Places
pub mod Members
pub mod Sound
pub mod Edited
pub mod Facts
pub mod Paths
pub mod Timetables
