pub mod Levels
pub mod LevelValues
pub mod Refinement
pub mod MachineRefinement
pub mod Apart
