pub mod Best
pub mod Order
