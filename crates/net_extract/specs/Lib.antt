pub mod Extract
pub mod Dividing
pub mod Going
pub mod Known
