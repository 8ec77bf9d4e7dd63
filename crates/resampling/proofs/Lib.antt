-- What follows from the definitions of the resampler, and what its proofs share.
pub mod Rows
pub mod Steps
