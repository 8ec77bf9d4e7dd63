-- What follows from the definitions of the searches, and what their proofs share.
pub mod Listed
pub mod Blocks
pub mod Correlates
pub mod Pitches
pub mod Silence
