-- What the proofs share, and that an inactive frame is told without a lag.
pub mod Narrow
pub mod Inactive
