-- The rows of the listing of lags.
pub mod Rows
