pub mod Kernels
pub mod Search
