-- Laws of the checker.
pub mod StepRun
pub mod ReportLaws
