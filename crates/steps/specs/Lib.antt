pub mod WorkingTables
pub mod CitedEntries
pub mod OpenLabels
pub mod StepAnswers
