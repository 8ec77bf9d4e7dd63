-- The signals of a frame, in the order of docs/SCOPE.md.
pub mod Straight
pub mod HighPass
pub mod Halving
pub mod Signals
