pub mod Covers
pub mod Literals
pub mod Volumes
pub mod Reductions
