-- Laws of the verdicts on both ears, for the proofs of this crate and for what is built above it.
pub mod Verdicts
