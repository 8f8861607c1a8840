pub mod Changes
pub mod Held
pub mod Kept
pub mod Locals
pub mod Numbered
pub mod Numbering
pub mod Parts
pub mod Signals
