-- `nabiteke_encoder_start_` writes the state of a start.
use Rattle.nabiteke.proofs.EncoderCalls.{start_left}
use Rattle.nabiteke.proofs.encoder_calls.nabiteke_encoder_start_.Goals as goal

pub returns : goal.returns
returns c =
    start_left c.args.rate c.args.duration _ c.start-started.ensures _ _ _ _ _ _
    c.answer_word.ensures c.write_numbers.ensures c.write_floats.ensures
