-- The state, and its start.
use Rattle.rates.specs.declared.answer.Refusal.{Refusal}
use Rattle.rates.specs.declared.config.Lc3Config.{Lc3Config}
use Rattle.std.specs.Prelude.{ℕ, replicate, Result, Ok, Err}
use Rattle.floats.specs.Single.{0·0}
use Rattle.rates.specs.Configs.{config_of}
use Rattle.control.specs.State.{cleared_marks}
use Rattle.on_ring.specs.Registers.{fit_ring}
use Rattle.decoder.specs.declared.state.Decoder.{Decoder}
use Rattle.decoder.specs.declared.state.Started.{Started}

-- a cleared state: no filter is kept, and both histories of 1,080 samples are zero
unfoldable pub cleared : ℕ → ℕ → Decoder
cleared rate duration = record {
  registers = record { marks = cleared_marks rate duration; block_start_index = 0 };
  kept = replicate 24 0·0;
  x_hat_mem = replicate 1080 0·0;
  x_hat_ltpf_mem = replicate 1080 0·0;
}

-- a refused start hands back the cleared 48000 Hz, 10 ms state
abbrev pub started_with : ℕ → ℕ → Result Lc3Config Refusal → Started
started_with rate duration (Ok c) = record { answer = Ok tt; decoder = cleared rate duration }
started_with rate duration (Err refusal) = record { answer = Err refusal; decoder = cleared 48000 10000 }

-- a start checks 1 and 2
abbrev pub started : ℕ → ℕ → Started
started rate duration = started_with rate duration (config_of rate duration)

-- the configuration of a fit state; others are refused with 9
abbrev pub fit_decoder : Decoder → Result Lc3Config Refusal
fit_decoder d = fit_ring d.registers
