-- Lag and gain, in the order of docs/SCOPE.md.
pub mod Lag
pub mod Gain
pub mod Sent
