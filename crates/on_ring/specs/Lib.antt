-- A decoder on a ring: its registers, and what filtering between its rings asks.
pub mod Registers
pub mod Required
