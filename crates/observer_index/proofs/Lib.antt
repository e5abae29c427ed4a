-- Laws of the index.
pub mod Tallying
pub mod HeadTurns
pub mod RowTurns
pub mod IndexTables
pub mod BuildingRuns
pub mod SeenRows
pub mod ThroughRuns
