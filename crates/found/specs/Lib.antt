-- What is found in a frame, in the order of docs/SCOPE.md.
pub mod Taps
pub mod LagParameter
pub mod Activation
pub mod Found
