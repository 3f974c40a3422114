pub mod Crossed
pub mod Paired
