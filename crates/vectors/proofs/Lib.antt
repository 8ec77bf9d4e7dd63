-- Laws that the proofs of `vectors` share.
pub mod Filled
