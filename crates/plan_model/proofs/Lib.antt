mod Examples
mod JournalExamples
mod TouchExamples
mod SessionExamples
mod RefusedEntries
mod WrongCalls
mod CallExamples
pub mod TrainAdded
pub mod Growing
pub mod Changing
pub mod Legality
pub mod Touching
pub mod Stamps
pub mod TasksLeft
pub mod OneWay
pub mod Adding
pub mod Working
pub mod MemberTests
pub mod SoundTest
pub mod ScheduleTest
pub mod Order
pub mod Overlap
pub mod FirstByName
pub mod Remaining
pub mod Tied
pub mod Unique
pub mod Uses
pub mod Planned
pub mod LeastTied
pub mod Greatest
pub mod Users
pub mod Reaching
pub mod Closing
pub mod Reduced
pub mod Sound
pub mod UseFound
pub mod FirstWith
pub mod Preceded
pub mod Unstamped
pub mod Readings
pub mod Untouched
pub mod Rising
pub mod Parts
pub mod Alone
pub mod Rounds
pub mod TrueRing
pub mod Ordered
