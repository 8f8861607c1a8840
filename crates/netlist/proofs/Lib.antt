pub mod Cells
pub mod Gateless
