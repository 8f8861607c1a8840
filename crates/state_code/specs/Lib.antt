pub mod Codes
pub mod Naming
pub mod Encoded
pub mod Assigned
