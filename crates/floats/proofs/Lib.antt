-- Laws of the floats' definitions.
pub mod Tests
