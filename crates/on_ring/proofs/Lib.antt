-- Laws of a decoder's registers and plans on a ring, for this crate's proofs and for what is built above it.
pub mod NewFilter
pub mod RingFits
pub mod Checks
