-- What C sees: the decoder, with both ears, and the encoder, a packed pitch, lags, what a frame is going to do, and the version. The lengths that it
-- asks for are defined in c_lengths.
pub mod DecoderArrays
pub mod DecoderCalls
pub mod EarCalls
pub mod EncoderCalls
pub mod PitchCalls
pub mod LagCalls
pub mod ToldCalls
pub mod Version
