pub mod Base
pub mod Later
pub mod Laws
pub mod Text
