-- The lag lookup from C.
use Rattle.std.specs.Prelude.{ℕ, List, [], ◌∷◌, ℤ}
use Rattle.rates.specs.Answers.{number_of}
use Rattle.c_telling.specs.Lookups.{lag_at}
use Rattle.c_telling.specs.declared.lookup.LagForC.{LagForC}

-- the number of the answer, the lag's whole samples and quarter, and the rounding
abbrev pub lag_numbers : LagForC → ℕ × List ℕ × ℤ
lag_numbers l = (number_of l.answer, l.whole ∷ l.quarter ∷ [], l.rounding)

abbrev pub lag_call : ℕ → ℕ → ℕ × List ℕ × ℤ
lag_call rate index = lag_numbers (lag_at rate index)
