pub mod Tables
pub mod Places
pub mod Reads
pub mod Fresh
