-- `lag_t1` is the definition, and one of 17 to 114.
use Prim.Native.Nat.{ℕ, ◌+◌, ◌≤◌}
use mathlib.Core.Path.{◌≡◌}
use mathlib.Core.List.{List}
use native.Mathlib.Omega.{arith}
use lib.Ieee.{Float}
use Rattle.search.specs.Pitch.{lag1, weighted, index_of_max}
use Rattle.search.proofs.Pitches.{lag1_range}
use Rattle.search.proofs.pitch.lag_t1.Goals as goal

as_lag1 : (r w : List Float) (i : ℕ) → w ≡ weighted r → i ≡ index_of_max w → i + 17 ≡ lag1 r
unfolding lag1
as_lag1 r w i e f = rw (f, e)

first : (r w : List Float) (i : ℕ) → w ≡ weighted r → i ≡ index_of_max w → (i + 17 ≡ lag1 r) × (i + 17 ≤ 114)
first r w i e f = let is_lag1 = as_lag1 r w i e f in (is_lag1, omega (arith, is_lag1, lag1_range r))

pub overflow_add-result : goal.overflow_add-result
overflow_add-result c = omega (arith, first _ _ _ c.weighted-r_w_6p4.ensures c.index_of_max_value.ensures)

pub returns : goal.returns
returns c =
    let f = first _ _ _ c.weighted-r_w_6p4.ensures c.index_of_max_value.ensures in record { lag = f.0; range = (omega arith, f.1) }
