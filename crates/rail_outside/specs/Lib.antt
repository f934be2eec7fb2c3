pub mod MemorySource
pub mod MemorySink
pub mod FromReader
pub mod ToWriter
pub mod InCall
pub mod MemoryWords
pub mod StdWords
