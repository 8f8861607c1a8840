pub mod Buffer
pub mod Folded
pub mod Mentioned
pub mod Merging
pub mod Once
pub mod FoldSteps
pub mod Tidied
pub mod Steps
