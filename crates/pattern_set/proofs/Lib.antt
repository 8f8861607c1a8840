pub mod Counting
pub mod Exact
pub mod Members
pub mod Numbering
pub mod Pins
pub mod Postfix
pub mod Values
