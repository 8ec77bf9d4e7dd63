pub mod SquareRoot
pub mod Steps
