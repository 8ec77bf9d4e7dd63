-- `nabiteke_encoder_frame_` writes the record, and the next state where the frame is done.
use Rattle.c_encoder.specs.State.{arrays}
use Rattle.nabiteke.specs.EncoderCalls.{given}
use Rattle.nabiteke.proofs.EncoderCalls.{frame_left}
use Rattle.nabiteke.proofs.encoder_calls.nabiteke_encoder_frame_.Goals as goal

pub returns : goal.returns
returns c =
    let a = c.args in
    frame_left (arrays a.numbers.now a.memories.now a.x_s.now a.x_12p8.now a.x_6p4.now) (given a.resampling.now a.correlation.now a.signal.now a.samples.now a.nbits a.near_nyquist)
    _ _ _ c.read_encoder-encoder.ensures c.is_yes-near.ensures c.frame-framed.ensures _ _ _ _ _ _ _
    c.write_numbers_if_done.ensures.0 c.write_numbers_if_done.ensures.1 c.write_floats_if_done.ensures c.write_record.ensures
