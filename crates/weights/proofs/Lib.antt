pub mod Meanings
pub mod Hexadecimal
