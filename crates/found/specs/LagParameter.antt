-- The lag parameter at 12.8 kHz: the whole lag, its fraction in quarters, and the index. x is the signal, entry start the delayed frame's first sample, len the
-- frame's length, t the lag at 6.4 kHz and h the interpolation table. Definitions only.
use Rattle.std.specs.Prelude.{ℕ, zero, suc, ◌+◌, ◌-◌, ◌*◌, ◌%◌, min, max, Bool, true, cond, ◌&&◌, List, eqb, leb, ltb, ℤ, pos, negsuc, nat_abs, Float, length}
use Rattle.std.specs.Int.Signed.{le_z}
use Rattle.std.specs.Float.Ieee.{lt}
use Rattle.floats.specs.Single.{◌⊗◌, 0·0, at}
use Rattle.lag.specs.Lag.{index_of}
use Rattle.search.specs.Correlate.{correlated}
use Rattle.found.specs.Taps.{turn, offset, inside, moved, plus}
use Rattle.found.specs.declared.lag_parameter.LagParameter.{LagParameter}

-- the whole lags that are looked at run from k_min, here, to k_max
abbrev pub k_min : ℕ → ℕ
k_min t = max 32 (2 * t - 4)

-- k_max
abbrev pub k_max : ℕ → ℕ
k_max t = min 228 (2 * t + 4)

-- how many there are, of lags k_min - 4 to k_max + 4
abbrev pub lag_count : ℕ → ℕ
lag_count t = k_max t + 4 - (k_min t - 4) + 1

-- the best that a search has met so far: where, and its value
pub record Best (A : Type 0) : Type 0 where
  pub place : A
  pub value : Float

-- a candidate becomes the best only where its value is strictly greater
abbrev pub better : {A : Type 0} → Best A → A → Float → Best A
better best place value = cond (lt best.value value) (record { place = place; value = value }) best

-- the search for the whole lag: from 0.0 and entry 4, over n entries from there
unfoldable pub whole_search : List Float → ℕ → Best ℕ
whole_search r zero = record { place = 4; value = 0·0 }
whole_search r (suc n) = better (whole_search r n) (n + 4) (at r (n + 4))

-- the whole lag's entry: all but the first and the last four are looked at
abbrev pub whole_entry : List Float → ℕ
whole_entry r = (whole_search r (length r - 8)).place

-- the correlations around entry e, interpolated at d quarters past it: the sum over the first j of the taps m = -4 to 4
unfoldable pub interpolated : List Float → ℕ → ℤ → List Float → ℕ → Float
interpolated r e d h zero = 0·0
interpolated r e d h (suc j) =
    plus (inside (pos 16) (offset (turn 4 j) d)) (interpolated r e d h j) (at r (moved e (turn 4 j)) ⊗ at h (moved 15 (offset (turn 4 j) d)))

-- whether a fraction from -3 to 3 is looked at: 0 to 3 at lag 32, all below 127, -2, 0, 2 from 127 to 156, and none above, where it stays 0
unfoldable pub looked_at : ℕ → ℤ → Bool
looked_at whole d = cond (eqb whole 32) (le_z (pos 0) d) (cond (ltb whole 127) true (leb whole 156 && eqb (nat_abs d % 2) 0))

-- the search for the fraction: from 0.0 and fraction 0, over the first j of -3 to 3
unfoldable pub fraction_search : List Float → ℕ → ℕ → List Float → ℕ → Best ℤ
fraction_search r e whole h zero = record { place = pos 0; value = 0·0 }
fraction_search r e whole h (suc j) =
    let best = fraction_search r e whole h j in
    cond (looked_at whole (turn 3 j)) (better best (turn 3 j) (interpolated r e (turn 3 j) h 9)) best

-- the fraction: from -3 to 3, before a carry
abbrev pub fraction_of : List Float → ℕ → ℕ → List Float → ℤ
fraction_of r e whole h = (fraction_search r e whole h 7).place

-- a lag with its index
abbrev pub coded : ℕ → ℕ → LagParameter
coded whole f = record { pitch_index = index_of whole f; pitch_int = whole; pitch_fr = f }

-- a negative fraction, here -(f + 1), is carried: whole - 1, fraction + 4
abbrev pub carried : ℕ → ℤ → LagParameter
carried whole (pos f) = coded whole f
carried whole (negsuc f) = coded (whole - 1) (3 - f)

-- the lag among correlations of lags `from`, `from` + 1, ..
unfoldable pub lag_among : List Float → ℕ → List Float → LagParameter
lag_among r from h = let e = whole_entry r in carried (e + from) (fraction_of r e (e + from) h)

-- the correlations reach four lags past either end, for the interpolation
unfoldable pub lag_parameter : List Float → ℕ → ℕ → ℕ → List Float → LagParameter
lag_parameter x start len t h = lag_among (correlated x start len (k_min t - 4) (lag_count t)) (k_min t - 4) h
