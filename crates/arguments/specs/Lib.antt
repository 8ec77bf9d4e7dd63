-- The inputs of a program, one after the other.
pub mod Inputs
