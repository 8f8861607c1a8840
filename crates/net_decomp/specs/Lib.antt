pub mod Decompose
pub mod Told
pub mod Cursor
pub mod Partings
pub mod Rules
pub mod Decomposed
pub mod Sums
