pub mod Standing
pub mod Linked
pub mod Kept
pub mod Views
pub mod Ordered
pub mod Numbers
pub mod Along
pub mod Indexed
