pub mod Meanings
pub mod StepRuns
pub mod Reports
