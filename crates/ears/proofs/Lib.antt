-- Laws of the steps of both ears, for the proofs of this crate and for what is built above it.
pub mod Steps
pub mod Aside
