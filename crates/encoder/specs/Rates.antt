-- What an encoder at 44100 and one at 48000 are to have in common.
use Rattle.std.specs.Prelude.{ℕ}
use Rattle.encoder.specs.declared.state.Encoder.{Encoder}
use Rattle.encoder.specs.declared.frame.Framed.{Framed}

-- the same state, but for the rate that it names
abbrev pub renamed : ℕ → Encoder → Encoder
renamed rate e = record {
  rate = rate;
  duration = e.duration;
  t_prev = e.t_prev;
  memory = e.memory;
  h50 = e.h50;
  x_s = e.x_s;
  x_12p8 = e.x_12p8;
  x_6p4 = e.x_6p4;
}

-- the same answer, record and bits, with such a state
abbrev pub renamed_frame : ℕ → Framed → Framed
renamed_frame rate f =
    record { answer = f.answer; pitch = f.pitch; nbits_ltpf = f.nbits_ltpf; encoder = renamed rate f.encoder }
