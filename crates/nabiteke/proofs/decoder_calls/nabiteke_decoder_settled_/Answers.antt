-- `nabiteke_decoder_settled_` reads one flag.
use Rattle.c_arrays.specs.Registers.{read_registers}
use Rattle.nabiteke.specs.DecoderCalls.{settled_call}
use Rattle.nabiteke.proofs.decoder_calls.nabiteke_decoder_settled_.Goals as goal

pub returns : goal.returns
unfolding settled_call read_registers
returns c = λ kept inputs outputs. rw (c.as_flag.ensures, c.is_yes.ensures)
