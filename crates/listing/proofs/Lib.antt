-- The listing's laws, of the whole input.
pub mod WholeInput
