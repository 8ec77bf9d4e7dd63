-- Numbers as text, and the cells of a row.
pub mod Decimal
pub mod Texts
