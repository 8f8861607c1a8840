pub mod Trees
pub mod Unique
pub mod Points
pub mod Sizes
pub mod Complements
pub mod Meanings
pub mod Steps
pub mod PlainNumbers
