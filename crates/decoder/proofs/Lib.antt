-- Laws of the decoder's definitions, for its proofs and for what is built above it.
pub mod Apart
pub mod TakenUp
