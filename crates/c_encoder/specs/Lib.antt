-- An encoder in the caller's arrays.
pub mod State
