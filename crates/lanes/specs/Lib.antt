pub mod Lanes
pub mod Sums
