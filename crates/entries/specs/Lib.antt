-- The lines of a recording, in the order of docs/SCOPE.md: a frame's number and its side information, or the word `lost`.
pub mod Sides
pub mod Lines
