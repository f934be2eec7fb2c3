pub mod Row
pub mod FirstTouch
pub mod Occupied
pub mod Moments
pub mod Step
pub mod Whole
pub mod Laid
