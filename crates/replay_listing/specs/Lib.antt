-- The listing of a replay: the rules without samples and coefficients, and the machine.
pub mod ByMarks
pub mod Machine
