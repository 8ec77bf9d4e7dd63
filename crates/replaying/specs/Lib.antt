-- A replay without samples and coefficients: what came of a frame, and a line.
pub mod Frames
pub mod Steps
