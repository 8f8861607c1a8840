pub mod Placed
pub mod Frames
pub mod Slots
pub mod Uses
pub mod Along
