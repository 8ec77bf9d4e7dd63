-- The filter, in the scope's order: F, fades, the five cases, the five cases with a count; then what its blocks ask, a kept filter, and what its functions ask.
pub mod Filter
pub mod Fade
pub mod Transition
pub mod Counted
pub mod Blocks
pub mod Kept
pub mod Required
