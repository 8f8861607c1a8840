pub mod Cubes
pub mod Quotient
pub mod Steps
