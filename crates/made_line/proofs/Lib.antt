pub mod Numbers
pub mod NameTests
pub mod Lists
pub mod Images
pub mod Tasks
pub mod Rising
pub mod Puts
pub mod Accepted
pub mod HowMany
pub mod Written
pub mod Later
pub mod AnyOrder
pub mod Planners
pub mod Sessions
mod Examples
