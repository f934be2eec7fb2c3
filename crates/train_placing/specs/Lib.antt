pub mod Last
pub mod Touch
pub mod Placing
pub mod Laid
