pub mod Booked
pub mod AdmissionRuns
pub mod Seen
pub mod Meanings
pub mod ViewSets
pub mod LentCase
