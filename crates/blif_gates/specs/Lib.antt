pub mod GateLines
pub mod Pairings
