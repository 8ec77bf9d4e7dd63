-- The encoder's state, refusals and frame call, in the order of docs/SCOPE.md; calls one after the other; and states that differ in the rate's name alone.
pub mod State
pub mod Judge
pub mod Frame
pub mod Calls
pub mod Rates
