mod Compressed
pub mod Taken
mod Fewer
mod FewerOrder
mod FewerSound
mod Rounds
pub mod SomeLeast
mod SomeAnswer
