pub mod Folding
pub mod Listing
pub mod Tidy
