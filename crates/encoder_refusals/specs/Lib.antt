-- The refusals of the encoder's calls.
pub mod Refusals
