-- Calls one after the other.
pub mod Engine
