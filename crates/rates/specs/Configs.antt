-- The lengths that a rate and a duration fix together, and the refusals 1 and 2.
use Rattle.std.specs.Prelude.{ℕ, ◌*◌, Option, Some, None, Result, Ok, Err}
use Rattle.rates.specs.Table.{row_of}
use Rattle.rates.specs.Durations.{duration_of}
use Rattle.rates.specs.declared.answer.Refusal.TheVariants.{UnknownRate, UnknownDuration}
use Rattle.rates.specs.declared.table.Rate.{Rate}
use Rattle.rates.specs.declared.duration.FrameDuration.{FrameDuration}
use Rattle.rates.specs.declared.duration.FrameDuration.TheVariants.{TenMs, SevenPointFiveMs}
use Rattle.rates.specs.declared.answer.Refusal.{Refusal}
use Rattle.rates.specs.declared.config.Lc3Config.{Lc3Config}

-- the samples of a frame
abbrev pub frame_of : Rate → FrameDuration → ℕ
frame_of row TenMs = row.nf_10
frame_of row SevenPointFiveMs = row.nf_7p5

-- the decoder's history: 2 frames at 10 ms, 3 at 7.5 ms
abbrev pub history_of : Rate → FrameDuration → ℕ
history_of row TenMs = 2 * row.nf_10
history_of row SevenPointFiveMs = 3 * row.nf_7p5

-- a start checks the rate, then the duration
abbrev pub configured : Option Rate → Option FrameDuration → Result Lc3Config Refusal
configured None d = Err UnknownRate
configured (Some row) None = Err UnknownDuration
configured (Some row) (Some d) =
    Ok (record { fs = row; n_ms = d; nf = frame_of row d; history = history_of row d })

abbrev pub config_of : ℕ → ℕ → Result Lc3Config Refusal
config_of hz us = configured (row_of hz) (duration_of us)
