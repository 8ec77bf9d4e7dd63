pub mod Slices
pub mod Written
