pub mod Lined
pub mod Cut
