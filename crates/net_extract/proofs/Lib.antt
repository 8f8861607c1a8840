pub mod Made
pub mod Places
pub mod Steps
pub mod Gaining
pub mod Saving
