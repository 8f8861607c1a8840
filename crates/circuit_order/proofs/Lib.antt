pub mod Counting
pub mod Indexing
pub mod Keys
pub mod Orders
pub mod Underway
