-- The laws of lines: those that are too long, and the frame numbers that there are.
pub mod LongLines
pub mod FrameNumbers
