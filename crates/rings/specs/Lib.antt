-- The ring, a frame filtered between two of them, what that asks, and the same on lines.
pub mod Ring
pub mod Samples
pub mod Required
pub mod OnLines
