pub mod PlaneBits
pub mod PlaneLoops
pub mod PlaneLanes
pub mod PlaneLiterals
pub mod PlaneNext
pub mod PlaneMasks
pub mod PlaneFree
pub mod PlaneCounts
