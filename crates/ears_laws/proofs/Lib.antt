-- The laws of two ears, low to high.
pub mod AsOne
pub mod Interference
pub mod EachEar
pub mod OneCalls
pub mod Listening
pub mod AnyTwo
pub mod Settling
