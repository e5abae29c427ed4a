pub mod RowTrees
pub mod Children
pub mod Sizes
pub mod DataAnswers
pub mod GoodRows
pub mod AdmittedBooks
