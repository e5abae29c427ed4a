pub mod Nodes
pub mod Meanings
pub mod Kinds
