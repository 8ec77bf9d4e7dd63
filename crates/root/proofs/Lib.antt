-- What is proved of the root on plain values. The theorems are in `Roots`, `Monotone` and `Exact`, which the proofs of other crates can cite too.
mod Order
mod Units
mod Nearest
mod Search
mod Leading
mod Midpoint
mod Floats
pub mod Roots
pub mod Monotone
pub mod Exact
mod Examples
