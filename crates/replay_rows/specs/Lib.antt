-- The rows of a replay as text.
pub mod Rows
