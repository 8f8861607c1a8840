pub mod Vertices
pub mod Merging
pub mod Walks
pub mod Answers
pub mod Fitting
pub mod Shares
