-- What follows from the definitions of the signals, and what their proofs share.
pub mod Fronts
pub mod Silent
pub mod SilentSignals
