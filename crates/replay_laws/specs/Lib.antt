-- The replay by the decoder's own definitions, and the calls that it makes.
pub mod Whole
pub mod Made
