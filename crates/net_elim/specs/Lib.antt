pub mod Putting
pub mod Waiting
pub mod Touching
pub mod Collapse
pub mod Phases
pub mod Eliminating
pub mod Collapsing
