pub mod Keywords
pub mod Statements
pub mod Lines
pub mod Reader
pub mod Steps
pub mod Trips
pub mod Groups
