pub mod Failing
pub mod Tabled
pub mod Marked
pub mod Fitting
pub mod Decoded
pub mod Sound
pub mod InOrder
