-- A decoder in the caller's arrays: which state they hold, and how a state is put into them.
use Rattle.std.specs.Prelude.{ℕ, List, Float}
use Rattle.decoder.specs.InPlace.{joined}
use Rattle.decoder.specs.declared.state.Decoder.{Decoder}
use Rattle.c_arrays.specs.Registers.{read_registers, numbers_of}

-- the four arrays of a nabiteke_decoder
pub record DecoderArrays : Type 0 where
  pub numbers : List ℕ
  pub kept : List Float
  pub inputs : List Float
  pub outputs : List Float

abbrev pub arrays : List ℕ → List Float → List Float → List Float → DecoderArrays
arrays numbers kept inputs outputs = record { numbers = numbers; kept = kept; inputs = inputs; outputs = outputs }

-- the state that the arrays hold
abbrev pub read_decoder : DecoderArrays → Decoder
read_decoder a = joined (read_registers a.numbers) a.kept a.inputs a.outputs

-- and how a state is written
abbrev pub written_decoder : Decoder → DecoderArrays
written_decoder d = arrays (numbers_of d.registers) d.kept d.x_hat_mem d.x_hat_ltpf_mem
