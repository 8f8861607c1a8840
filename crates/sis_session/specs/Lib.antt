pub mod State
pub mod Plan
pub mod Commands
pub mod Replies
pub mod Methods
pub mod Keeping
pub mod Told
