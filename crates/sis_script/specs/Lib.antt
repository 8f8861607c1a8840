pub mod Bounds
pub mod Grammar
pub mod Kinds
pub mod Laws
pub mod Script
pub mod Steps
pub mod Verbs
