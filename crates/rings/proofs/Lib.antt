-- Laws of the ring and of filtering between two, for what is built above them.
pub mod StraightLines
pub mod MovingPast
pub mod OwnBlock
