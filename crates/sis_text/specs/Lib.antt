pub mod Words
pub mod Lines
pub mod Joining
pub mod Pieces
pub mod Entries
pub mod Order
pub mod Written
pub mod Decimals
