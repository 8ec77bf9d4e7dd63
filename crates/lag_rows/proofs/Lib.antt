-- A law of the rows: lines that are too long.
pub mod LongLines
