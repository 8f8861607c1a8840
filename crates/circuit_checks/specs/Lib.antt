pub mod NameChecks
pub mod Cycles
pub mod PartChecks
pub mod Laws
pub mod Sets
pub mod Graphs
pub mod Searching
