-- Laws of sets and tables.
pub mod Bits
pub mod Assignments
pub mod ListedMembers
