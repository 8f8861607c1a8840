pub mod Columns
pub mod Settled
pub mod Latches
