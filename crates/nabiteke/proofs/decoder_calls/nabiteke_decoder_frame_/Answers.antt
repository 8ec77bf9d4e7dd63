-- `nabiteke_decoder_frame_` frames in place, and writes the numbers where that is done.
use Rattle.nabiteke.specs.DecoderArrays.{arrays}
use Rattle.nabiteke.specs.DecoderCalls.{given}
use Rattle.nabiteke.proofs.DecoderCalls.{frame_left}
use Rattle.nabiteke.proofs.decoder_calls.nabiteke_decoder_frame_.Goals as goal

pub returns : goal.returns
returns c =
    let a = c.args in
    frame_left (arrays a.numbers.now a.kept.now a.inputs.now a.outputs.now)
    (given a.numerators.now a.denominators.now a.pitch_present a.pitch_index a.pitch_active a.nbits a.samples.now)
    _ _ _ _ _ _ _ c.read_registers-registers.ensures.0 c.side_from-side.ensures c.frame_in_place-framed.ensures _ _
    c.write_numbers_if_done.ensures.0 c.write_numbers_if_done.ensures.1
