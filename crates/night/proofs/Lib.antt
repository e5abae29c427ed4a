-- Laws of the loop over the pairs, and of the loop over the files.
pub mod PairTurns
pub mod FileTurns
