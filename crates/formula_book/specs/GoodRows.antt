-- What callers ask of a formula: its row. No row up to it is bad, and it is one of at most 1,024.
pub use Rattle.definition.specs.41-Occurrences.{GoodRow}
