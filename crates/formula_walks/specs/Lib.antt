pub mod WalkRows
pub mod CommonNode
pub mod DataLists
pub mod DataWalk
