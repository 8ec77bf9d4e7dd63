-- `nabiteke_decoder_start_` writes the state of a start.
use Rattle.nabiteke.proofs.DecoderCalls.{start_left}
use Rattle.nabiteke.proofs.decoder_calls.nabiteke_decoder_start_.Goals as goal

pub returns : goal.returns
returns c =
    start_left c.args.rate c.args.duration _ c.start-started.ensures _ _ c.answer_word.ensures c.write_numbers.ensures
