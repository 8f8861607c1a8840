pub mod Covering
pub mod Choosing
pub mod Naming
pub mod Mapping
pub mod Working
pub mod Parts
pub mod Standing
