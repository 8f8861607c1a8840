pub mod Netlists
pub mod Lines
pub mod Figures
