pub mod Literals
pub mod Orders
pub mod Cubes
