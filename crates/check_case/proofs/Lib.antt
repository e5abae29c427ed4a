-- Laws of what the program reads and prints.
pub mod WrittenText
pub mod Numerals
pub mod Lines
pub mod Readings
pub mod Lengths
