-- Laws of the filter's definitions, for its proofs and for what is built above it.
pub mod Growing
pub mod OutputsLong
pub mod Counting
pub mod Reading
pub mod Alike
pub mod Padded
pub mod EightLanes
pub mod Cases
pub mod NotACopy
