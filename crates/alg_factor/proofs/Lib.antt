pub mod Choosing
pub mod Laws
pub mod PartedRows
pub mod Chains
pub mod Expansions
pub mod Texts
