-- What a frame is going to do: how its lag was rounded, and what its plan tells.
pub mod Roundings
pub mod Told
