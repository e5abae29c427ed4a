pub mod Records
pub mod ShapedSteps
pub mod Named
