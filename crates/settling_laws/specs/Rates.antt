-- What a decoder at 44100 and one at 48000 are to have in common.
use Rattle.std.specs.Prelude.{ℕ, Bool, true, false, List}
use Rattle.call_laws.specs.Engine.{all_of}
use Rattle.decoder.specs.declared.state.Decoder.{Decoder}
use Rattle.settling_laws.specs.Calls.{Call, start, frame, loss, frames, decoder_with}

-- the same state, but for the rate that it names
abbrev pub renamed : ℕ → Decoder → Decoder
renamed rate d = record {
  registers = record {
    marks = record {
      rate = rate;
      duration = d.registers.marks.duration;
      run = d.registers.marks.run;
      ltpf_active_prev = d.registers.marks.ltpf_active_prev;
      settled = d.registers.marks.settled;
      lag = d.registers.marks.lag;
    };
    block_start_index = d.registers.block_start_index;
  };
  kept = d.kept;
  x_hat_mem = d.x_hat_mem;
  x_hat_ltpf_mem = d.x_hat_ltpf_mem;
}

-- frames and loss marks alone
abbrev pub is_later : Call → Bool
is_later (start rate duration) = false
is_later (frame f) = true
is_later loss = true

abbrev pub no_start : List Call → Bool
no_start = all_of (decoder_with frames) is_later
