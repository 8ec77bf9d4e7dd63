-- The resampler.
pub mod Resample
pub mod Rows
