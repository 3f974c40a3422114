pub mod Crossings
pub mod Pairs
