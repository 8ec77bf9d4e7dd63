-- Laws of fields, of lines that are held, and of listings, for this crate and those above it.
pub mod Numbers
pub mod HeldLines
pub mod Cuts
pub mod Feeding
pub mod WholeInput
