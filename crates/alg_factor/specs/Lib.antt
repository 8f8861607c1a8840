pub mod Forms
pub mod Codes
pub mod Choices
pub mod Shapes
pub mod Texts
pub mod Chains
pub mod Writing
