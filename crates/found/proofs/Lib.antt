-- What follows from the definitions of the lag parameter and the activation, and what their proofs share.
pub mod Signs
pub mod Turns
pub mod LagParameters
pub mod Activations
pub mod Readiness
