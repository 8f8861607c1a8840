pub mod Keyword
pub mod Lines
pub mod Reader
pub mod Steps
pub mod Limits
pub mod Heads
pub mod Libraries
