-- Laws of the verdict, for this crate's proofs and for what is built above it.
pub mod LentFirst
pub mod Lags
pub mod Readable
pub mod Judging
pub mod Planned
pub mod PlanProducts
