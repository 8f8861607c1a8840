pub mod Points
pub mod Widened
pub mod Needed
pub mod Minima
pub mod Trimming
pub mod Refusals
