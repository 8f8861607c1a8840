pub mod Orders
pub mod Members
pub mod Sorting
pub mod Sorts
pub mod Over
pub mod Worth
pub mod Names
pub mod Back
