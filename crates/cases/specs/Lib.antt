-- Cases computed from the definition, by the numbers of its own examples, and what builds them.
pub mod 61-DueHours
pub mod 62-MoreStepFaults
