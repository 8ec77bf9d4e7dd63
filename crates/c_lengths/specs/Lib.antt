-- The lengths that a caller asks for.
pub mod Lengths
