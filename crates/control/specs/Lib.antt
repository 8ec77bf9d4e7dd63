-- What a decoder remembers as a few numbers, in the scope's order: the marks and which are fit, and the marks after a frame.
pub mod State
pub mod Next
