-- The laws of the replay, low to high.
pub mod OneCall
pub mod OneLine
pub mod WholeInput
pub mod Refusals
pub mod SettledColumn
pub mod RoundingColumn
pub mod CaseColumn
