pub mod Best
pub mod Candidates
pub mod Divisions
pub mod Kept
pub mod Listed
pub mod Pairs
pub mod Reaching
pub mod Resubbed
