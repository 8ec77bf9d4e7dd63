-- The rows that docs/SCOPE.md lists, as one table.
use Rattle.lag.specs.declared.rescale.Lag.{Lag}
use Rattle.rates.specs.declared.table.Rate.{Rate}
use Rattle.std.proofs.Common.{Option, Some, None}
use Prim.Native.Nat.{ℕ}
use mathlib.Core.Path.{◌≡◌, refl}
use mathlib.Core.List.{List, [], ◌∷◌, map}
use Rattle.rates.specs.Table.{row_of, find}
use Rattle.lag.specs.Lag.{quarters, index_of, rescaled, found_lag}

-- rate, index, whole lag and quarter
pub lag_rows : List (ℕ × ℕ × ℕ × ℕ)
lag_rows =
    (48000, 0, 120, 0) ∷ (48000, 379, 475, 1) ∷ (48000, 380, 476, 1) ∷ (48000, 381, 478, 1) ∷
    (48000, 439, 587, 0) ∷ (48000, 440, 588, 3) ∷ (48000, 511, 855, 0) ∷
    (8000, 1, 20, 1) ∷ (8000, 2, 20, 1) ∷ (8000, 4, 20, 3) ∷ (8000, 511, 142, 2) ∷
    (24000, 511, 427, 2) ∷ []

-- the encoder's whole lag, fraction and index
pub index_rows : List (ℕ × ℕ × ℕ)
index_rows = (126, 2, 378) ∷ (127, 0, 380) ∷ []

-- the lag of an index at a rate in Hz; an unknown rate has none
pub lag_at_lem : Option Rate → ℕ → Option Lag
lag_at_lem (Some fs) index = found_lag fs index
lag_at_lem None index = None

pub found : ℕ × ℕ × ℕ × ℕ → Option Lag
found row = lag_at_lem (row_of row.0) row.1

pub expected : ℕ × ℕ × ℕ × ℕ → Option Lag
expected row = Some (record { whole = row.2; quarter = row.3 })

pub stars : (map found lag_rows ≡ map expected lag_rows)
    × (map (λ row. index_of row.0 row.1) index_rows ≡ map (λ row. row.2) index_rows)
unfolding lag_rows index_rows lag_at_lem found expected find quarters rescaled index_of
stars = (refl, refl)
