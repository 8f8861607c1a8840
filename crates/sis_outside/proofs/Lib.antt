pub mod Entries
pub mod Pieces
pub mod Records
pub mod Rises
pub mod Following
