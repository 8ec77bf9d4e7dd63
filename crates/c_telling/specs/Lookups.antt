-- The lag lookup by a rate in Hz.
use Rattle.lag.specs.declared.rescale.RoundedLag.{RoundedLag}
use Rattle.rates.specs.declared.table.Rate.{Rate}
use Rattle.std.specs.Prelude.{ℕ, pos, Option, Some, None, Ok, Err}
use Rattle.rates.specs.Table.{row_of}
use Rattle.rates.specs.declared.answer.Refusal.{Refusal}
use Rattle.rates.specs.declared.answer.Refusal.TheVariants.{UnknownRate, IndexTooLarge}
use Rattle.lag.specs.Lag.{looked_up_lag}
use Rattle.c_telling.specs.declared.lookup.LagForC.{LagForC}

-- a refused lookup gives zeros
abbrev pub no_lag_for : Refusal → LagForC
no_lag_for refusal = record { answer = Err refusal; whole = 0; quarter = 0; rounding = pos 0 }

-- 7: an index above 511 has no lag
abbrev pub lag_for : Option RoundedLag → LagForC
lag_for None = no_lag_for IndexTooLarge
lag_for (Some l) = record { answer = Ok tt; whole = l.lag.whole; quarter = l.lag.quarter; rounding = l.rounding }

-- 1 comes first
abbrev pub lag_in : Option Rate → ℕ → LagForC
lag_in None index = no_lag_for UnknownRate
lag_in (Some fs) index = lag_for (looked_up_lag fs index)

abbrev pub lag_at : ℕ → ℕ → LagForC
lag_at rate index = lag_in (row_of rate) index
