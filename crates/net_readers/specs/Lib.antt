pub mod Fanouts
