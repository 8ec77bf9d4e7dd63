-- Laws of stored blocks, for what is built above them.
pub mod Stored
pub mod Written
pub mod Pasted
