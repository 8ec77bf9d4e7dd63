-- `nabiteke_decoder_lost_` marks the registers of the numbers, whatever the other arrays are.
use Rattle.nabiteke.proofs.DecoderCalls.{lost_left}
use Rattle.nabiteke.proofs.decoder_calls.nabiteke_decoder_lost_.Goals as goal

pub returns : goal.returns
returns c =
    lost_left c.args.numbers.now _ c.read_registers-registers.ensures.0 c.read_registers-registers.ensures.1 _ c.lost_in_place-marked.ensures _ _
    c.write_numbers_if_done.ensures.0 c.write_numbers_if_done.ensures.1
