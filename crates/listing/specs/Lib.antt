-- The listing of lags.
pub mod Whole
pub mod Machine
