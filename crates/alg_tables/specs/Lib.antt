pub mod Taking
pub mod Dividing
pub mod Containing
