-- Laws over the table of rates and of the refusals, for this crate and those above it.
pub mod Rows
pub mod Known
pub mod Sizes
pub mod Renaming
pub mod Refusals
