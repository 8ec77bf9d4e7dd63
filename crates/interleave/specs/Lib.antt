-- One buffer with the samples of both ears.
pub mod Turns
