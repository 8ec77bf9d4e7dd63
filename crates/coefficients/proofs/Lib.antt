-- Laws of a filter's coefficients, for what is built above them.
pub mod LaidOut
