pub mod Simplify
pub mod Turns
pub mod Local
pub mod Minimized
pub mod Simplified
