pub mod Texts
pub mod Characters
pub mod Told
pub mod NamedOnce
pub mod Paired
