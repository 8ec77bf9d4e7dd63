-- A state whose lag is no wider than C's numbers is written as it is.
pub mod Narrow
