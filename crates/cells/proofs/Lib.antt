-- Laws of numbers as text and of text in a buffer, for this crate and those above it.
pub mod Decimals
pub mod Stores
