-- What the caller's numbers stand for: flags, a decoder's registers, a pitch.
pub mod Words
pub mod Registers
pub mod Pitch
