-- Both ears: the call, and the call on states taken apart; then what the functions of this crate promise each other, and ask.
pub mod Both
pub mod InPlace
pub mod Carry
pub mod Required
