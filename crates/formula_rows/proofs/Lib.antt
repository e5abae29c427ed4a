-- Laws of terms and rows.
pub mod Classes
pub mod TermCases
pub mod RowEquality
pub mod RowKinds
pub mod RowNodes
