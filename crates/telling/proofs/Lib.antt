-- What is told of a frame, beside the verdict on it.
pub mod Agreement
