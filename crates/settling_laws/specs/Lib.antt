-- What the laws of settling speak of: calls one after the other; and states that differ in the rate's name alone.
pub mod Calls
pub mod Rates
