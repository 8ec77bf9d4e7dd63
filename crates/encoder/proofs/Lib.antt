-- What follows from the encoder's definitions, and what its proofs share.
pub mod Judged
pub mod Frames
pub mod SilentFrames
pub mod As48000
