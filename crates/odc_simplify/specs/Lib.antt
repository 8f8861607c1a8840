pub mod Seen
pub mod Products
pub mod Held
pub mod Full
pub mod Tested
pub mod Turns
