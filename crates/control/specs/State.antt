-- The marks: what a decoder remembers as a few numbers, which of them are fit, and how a run of inactive frames settles.
use Rattle.rates.specs.declared.answer.Refusal.{Refusal}
use Rattle.std.specs.Prelude.{ℕ, ◌+◌, min, Bool, true, false, cond, not, ◌&&◌, ◌||◌, leb, ltb, eqb, Result, Ok, Err}
use Rattle.rates.specs.Configs.{config_of}
use Rattle.rates.specs.declared.answer.Refusal.TheVariants.{UnfitState}
use Rattle.rates.specs.declared.table.Rate.{Rate}
use Rattle.rates.specs.declared.config.Lc3Config.{Lc3Config}
use Rattle.lag.specs.Lag.{quarters, lag_of}
use Rattle.lag.specs.declared.rescale.Lag.{Lag}
use Rattle.control.specs.declared.marks.Marks.{Marks}

-- the lag of an inactive frame
abbrev pub no_lag : Lag
no_lag = record { whole = 0; quarter = 0 }

-- the marks of a start: inactive, no lag, an empty run, not settled
unfoldable pub cleared_marks : ℕ → ℕ → Marks
cleared_marks rate duration = record {
  rate = rate;
  duration = duration;
  run = 0;
  ltpf_active_prev = false;
  settled = false;
  lag = no_lag;
}

-- the run's limit: so many accepted inactive frames in a row settle a decoder
abbrev pub settled_limit : ℕ
settled_limit = 3

-- after an active frame the whole lag is between those of the indices 0 and 511, and the quarter at most 3
unfoldable pub lag_fits : Rate → Bool → Lag → Bool
lag_fits fs false lag = true
lag_fits fs true lag =
    leb (lag_of fs.r (quarters 0)).whole lag.whole && leb lag.whole (lag_of fs.r (quarters 511)).whole && leb lag.quarter 3

-- the run is not above 0 after an active frame, not above its limit, and not at its limit while settled is no
unfoldable pub run_fits : Bool → ℕ → Bool → Bool
run_fits active run settled = not (active && ltb 0 run) && not (ltb settled_limit run) && not (eqb run settled_limit && not settled)

-- fit: none of the things that the scope lists as unfit
abbrev pub fit : Lc3Config → Marks → Bool
fit c m = lag_fits c.fs m.ltpf_active_prev m.lag && run_fits m.ltpf_active_prev m.run m.settled

-- an unknown rate or duration is unfit too
abbrev pub fit_with : Marks → Result Lc3Config Refusal → Result Lc3Config Refusal
fit_with m (Err a) = Err UnfitState
fit_with m (Ok c) = cond (fit c m) (Ok c) (Err UnfitState)

-- the configuration of fit marks; unfit ones are refused with 9
abbrev pub fit_config : Marks → Result Lc3Config Refusal
fit_config m = fit_with m (config_of m.rate m.duration)

-- the run after a frame: an active frame zeroes it, an inactive one counts, up to the limit
abbrev pub run_after : Bool → ℕ → ℕ
run_after active run = cond active 0 (min (run + 1) settled_limit)

-- settled becomes yes when the run reaches its limit, and stays so
abbrev pub settled_after : Bool → ℕ → Bool
settled_after settled run = settled || eqb run settled_limit
