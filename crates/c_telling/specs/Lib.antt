-- What C asks about lags and frames; then what a private function of this crate asks.
pub mod Lookups
pub mod Tellings
pub mod Required
