-- Laws of one step.
pub mod FirstState
pub mod EntriesThere
pub mod OpenLabelLaws
pub mod FreshTerms
pub mod RefiningLaws
pub mod StepBranches
