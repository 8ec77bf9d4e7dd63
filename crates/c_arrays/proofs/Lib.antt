-- What the proofs share, and that a flag, a pitch and registers read back.
pub mod AnswerNumbers
pub mod Flags
pub mod Pitches
pub mod Numbers
