-- Laws of the buffer of both ears, for the proofs of this crate and for what is built above it.
pub mod Buffers
pub mod Ranges
