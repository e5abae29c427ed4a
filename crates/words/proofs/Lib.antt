-- Laws of loops, and of a table's part that is lent.
pub mod LentParts
pub mod Searches
pub mod CheckRuns
