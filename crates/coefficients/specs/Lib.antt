-- The filter of a frame, and what is asked of the lent set.
pub mod Coefficients
pub mod Required
