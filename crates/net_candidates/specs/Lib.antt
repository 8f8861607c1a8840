pub mod Listed
pub mod Parts
pub mod Pairs
pub mod Faults
pub mod Spots
pub mod Partners
pub mod Candidates
pub mod Extracting
