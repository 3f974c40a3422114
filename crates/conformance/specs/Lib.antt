pub mod Dual
pub mod TwoTotals
pub mod DualLaws
