-- Laws of the marks, for this crate's proofs and for what is built above it.
pub mod Tested
pub mod Sizes
pub mod Fit
pub mod StaysFit
pub mod Reaching
pub mod LeastLimit
pub mod MarksAfter
