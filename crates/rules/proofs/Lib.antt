-- Laws of the rules at formulas of an admitted book.
pub mod ComparedRows
pub mod ActionPolicies
pub mod CitedFormulas
pub mod FormulaParts
pub mod SeenRowRule
pub mod NamedNumbers
pub mod RuleNumbers
pub mod ShapedStepLaws
pub mod OwnedData
pub mod StrayRuns
pub mod PremiseFaults
