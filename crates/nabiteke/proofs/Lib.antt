-- Laws of the calls from C, and what the proofs share.
pub mod DecoderFrames
pub mod DecoderCalls
pub mod EarCalls
pub mod DecoderLaws
pub mod EarLaws
pub mod ToldLaws
pub mod EncoderFrames
pub mod EncoderCalls
pub mod EncoderLaws
