-- The decoder, in the scope's order: the state and its start, a frame and a loss mark; then a state taken apart.
pub mod State
pub mod Frame
pub mod InPlace
