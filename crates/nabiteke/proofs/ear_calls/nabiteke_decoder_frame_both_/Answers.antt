-- `nabiteke_decoder_frame_both_` frames both ears in place, and writes the numbers of each ear that is done.
use Rattle.nabiteke.specs.DecoderArrays.{arrays}
use Rattle.nabiteke.specs.EarCalls.{headset_arrays, given_both}
use Rattle.nabiteke.proofs.EarCalls.{both_left}
use Rattle.nabiteke.proofs.ear_calls.nabiteke_decoder_frame_both_.Goals as goal

pub returns : goal.returns
returns c =
    let a = c.args in
    both_left (headset_arrays (arrays a.left_numbers.now a.left_kept.now a.left_inputs.now a.left_outputs.now)
    (arrays a.right_numbers.now a.right_kept.now a.right_inputs.now a.right_outputs.now))
    (given_both a.numerators.now a.denominators.now a.sides.now a.samples.now)
    _ _ _ _ _ _ _ _ _ _ c.read_ear-left.ensures c.read_ear-right.ensures c.frame_both-both.ensures _ _ _ _
    c.write_numbers_if_done-left_answer.ensures.0 c.write_numbers_if_done-left_answer.ensures.1 c.write_numbers_if_done-right_answer.ensures.0 c.write_numbers_if_done-right_answer.ensures.1
