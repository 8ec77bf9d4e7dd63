-- Correlations and the pitch search, in the order of docs/SCOPE.md.
pub mod Lists
pub mod Blocks
pub mod Correlate
pub mod Pitch
