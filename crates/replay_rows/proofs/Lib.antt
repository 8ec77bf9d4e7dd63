-- A law of the rows: a cell that fits.
pub mod Cells
