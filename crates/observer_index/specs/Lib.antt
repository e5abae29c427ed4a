pub mod Entries
pub mod Slots
pub mod Heads
pub mod Rows
pub mod OwnList
pub mod Meanings
