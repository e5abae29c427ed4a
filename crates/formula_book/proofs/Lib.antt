-- Laws of the formula book. Callers cite Laws alone.
pub mod RowTreeLaws
pub mod TermFields
pub mod WalkedRows
pub mod DataAnswerLaws
pub mod SizeLaws
pub mod RowComparison
pub mod Laws
pub mod Instances
