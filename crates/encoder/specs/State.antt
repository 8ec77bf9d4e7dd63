-- The encoder's state: how it starts, and where it is fit for a frame.
use Rattle.rates.specs.declared.answer.Refusal.{Refusal}
use Rattle.rates.specs.declared.config.Lc3Config.{Lc3Config}
use Rattle.std.specs.Prelude.{ℕ, false, replicate, Result, Ok, Err}
use Rattle.floats.specs.Single.{0·0}
use Rattle.rates.specs.Configs.{config_of}
pub use Rattle.encoder_refusals.specs.Refusals.{fit_by, fit_of}
use Rattle.encoder.specs.declared.state.Encoder.{Encoder}
use Rattle.encoder.specs.declared.state.Started.{Started}

-- the cleared state of a rate and a duration: histories and memories at zero, previous lag 17
abbrev pub cleared_at : ℕ → ℕ → Encoder
cleared_at rate duration = record {
  rate = rate;
  duration = duration;
  t_prev = 17;
  memory = record { mem_pitch = 0·0; mem_ltpf_active = false; mem_nc = 0·0; mem_mem_nc = 0·0 };
  h50 = record { h50_minus1 = 0·0; h50_minus2 = 0·0 };
  x_s = replicate 60 0·0;
  x_12p8 = replicate 276 0·0;
  x_6p4 = replicate 114 0·0;
}

-- a refused start hands back the cleared 48000 Hz, 10 ms state
abbrev pub started_with : Result Lc3Config Refusal → ℕ → ℕ → Started
started_with (Ok c) rate duration = record { answer = Ok tt; encoder = cleared_at rate duration }
started_with (Err a) rate duration = record { answer = Err a; encoder = cleared_at 48000 10000 }

-- a start at a rate in Hz and a duration in microseconds: checks 1 and 2
abbrev pub started : ℕ → ℕ → Started
started rate duration = started_with (config_of rate duration) rate duration

-- the configuration of a state that is fit
abbrev pub fit_config : Encoder → Result Lc3Config Refusal
fit_config e = fit_of e.rate e.duration e.t_prev
