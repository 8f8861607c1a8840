pub mod Saving
pub mod Listing
pub mod Sharing
pub mod Meeting
pub mod Indexed
pub mod Savings
pub mod Orders
pub mod Ranking
