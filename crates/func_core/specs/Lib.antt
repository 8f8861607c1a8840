pub mod Trees
pub mod Sizes
pub mod Points
pub mod Numbers
pub mod Operations
pub mod Laws
pub mod PlainTrees
