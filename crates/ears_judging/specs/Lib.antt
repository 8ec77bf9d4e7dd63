-- The verdicts on both ears; then what the functions of this crate promise each other, and ask.
pub mod Judge
pub mod Verdicts
pub mod Required
