-- What the laws of two ears speak of: calls of both, one after the other; and listeners, which a decoder by itself is too.
pub mod Calls
pub mod Listeners
