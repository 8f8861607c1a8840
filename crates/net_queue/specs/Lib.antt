pub mod Greatest
pub mod Queue
