-- Instances of the definition's statements.
pub mod DemandInstances
pub mod DutyInstances
pub mod NightInstances
