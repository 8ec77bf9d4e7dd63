-- What the contracts of `vectors` cite.
pub mod Numbers
pub mod Parts
pub mod Pitch
