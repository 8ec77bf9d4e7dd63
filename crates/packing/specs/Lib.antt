-- The pitch record in bytes, in the order of docs/SCOPE.md.
pub mod Bits
pub mod Form
pub mod Writings
pub mod Readings
pub mod Pairs
