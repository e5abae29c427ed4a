-- Laws of walks over formulas.
pub mod Shifts
pub mod ListPlaces
pub mod DataOrder
pub mod WalkLaws
pub mod OccursLaws
pub mod DataWalkLaws
pub mod InstanceLaws
pub mod InstanceArms
