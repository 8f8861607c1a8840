pub mod Lists
pub mod Cubes
pub mod Terms
pub mod Maps
pub mod Laws
