-- `lag_t2` is the definition; the sum is at most 114.
use Prim.Native.Nat.{ℕ, ◌+◌, ◌-◌, ◌≤◌, min, max}
use mathlib.Core.Path.{◌≡◌}
use mathlib.Core.List.{List}
use native.Mathlib.Omega.{arith}
use lib.Ieee.{Float}
use lib.ListN.{length, take, drop}
use Rattle.search.specs.Pitch.{lag2, index_of_max}
use Rattle.search.proofs.Pitches.{lag2_range}
use Rattle.search.proofs.pitch.lag_t2.Goals as goal

-- what the search finds among the entries from a - 17 to b - 17
as_lag2 : (r : List Float) (t a b i : ℕ) → a ≡ max 17 (t - 4) → b ≡ min 114 (t + 4) →
    i ≡ index_of_max (take (b - 17 + 1 - (a - 17)) (drop (a - 17) r)) → i + (a - 17) + 17 ≡ lag2 r t
unfolding lag2
as_lag2 r t a b i e f g = rw (g, e, f)

second : (r : List Float) (t a b i : ℕ) → length r ≡ 98 → 17 ≤ t → t ≤ 114 → a ≡ max 17 (t - 4) → b ≡ min 114 (t + 4) →
    i ≡ index_of_max (take (b - 17 + 1 - (a - 17)) (drop (a - 17) r)) → (i + (a - 17) + 17 ≡ lag2 r t) × (i + (a - 17) + 17 ≤ 114)
second r t a b i l low high e f g =
    let is_lag2 : i + (a - 17) + 17 ≡ lag2 r t = as_lag2 r t a b i e f g in
    (is_lag2, omega (arith, is_lag2, lag2_range r t l low high))

pub overflow_add-result : goal.overflow_add-result
overflow_add-result c =
    omega (arith, second _ _ _ _ _ c.told-r_6p4 c.requires.0 c.requires.1 c.max-from.ensures c.min.ensures c.index_of_max_value.ensures)

pub overflow_add-result-2 : goal.overflow_add-result-2
overflow_add-result-2 c =
    omega (arith, second _ _ _ _ _ c.told-r_6p4 c.requires.0 c.requires.1 c.max-from.ensures c.min.ensures c.index_of_max_value.ensures)

pub returns : goal.returns
returns c =
    let s = second _ _ _ _ _ c.told-r_6p4 c.requires.0 c.requires.1 c.max-from.ensures c.min.ensures c.index_of_max_value.ensures in
    record { lag = s.0; range = (omega arith, s.1) }
