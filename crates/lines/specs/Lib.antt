-- The fields of a line, and listings of lines.
pub mod Fields
pub mod Listings
pub mod Machine
pub mod Calls
