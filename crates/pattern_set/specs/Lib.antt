pub mod Patterns
pub mod Values
pub mod Cells
pub mod Lists
pub mod Numbers
pub mod Usage
