pub mod Orders
pub mod Parts
pub mod Found
pub mod Searches
pub mod Bridge
pub mod Sorted
pub mod Spots
pub mod Faults
