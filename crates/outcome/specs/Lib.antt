-- How a program has fared.
pub mod Outcomes
