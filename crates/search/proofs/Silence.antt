-- From silence the pitch search finds lag 17, and no pitch.
use Prim.Native.Nat.{ℕ, zero, suc, ◌+◌, ◌-◌, ◌*◌, ◌≤◌, ◌<◌}
use mathlib.Core.Path.{◌≡◌, refl}
use mathlib.Core.Bool.{Bool, true, false}
use mathlib.Core.List.{List}
use native.Mathlib.Nat.{mul-zero}
use native.Mathlib.Omega.{arith}
use lib.IntN.{pos}
use lib.ListN.{length}
use lib.Ieee.{Float, nan, inf, fin, up, down, unlike, lt, add, mul, div, round}
use lib.Ieee.Fits.{down_pos}
use Rattle.floats.specs.Single.{◌⊗◌, 0·0, at}
use Rattle.root.specs.SquareRoot.{root_of}
use Rattle.std.proofs.Common.{Some}
use Rattle.lanes.specs.Sums.{product_sum, window}
use Rattle.search.specs.Pitch.{correlation, energy, correlations, weight, weighted, lag1, lag2, root_at, normalised, chosen, detected}
use Rattle.search.proofs.Listed.{list_of_at}
use Rattle.search.proofs.Pitches.{weighted_length, stays_first}
use Rattle.lanes.proofs.Times.{round_zero}

-- what is never less than another of its kind: a NaN and the two zeros
data Null : Float → Type 0 where
  none : Null nan
  nought : (s : Bool) → Null (fin s 0 (pos 0))

null_lt : {a b : Float} → Null a → Null b → lt a b ≡ false
unfolding lt
null_lt none y = refl
null_lt (nought s) none = refl
null_lt (nought false) (nought false) = refl
null_lt (nought false) (nought true) = refl
null_lt (nought true) (nought false) = refl
null_lt (nought true) (nought true) = refl

-- so is anything times 0.0
times_zero : (w : Float) → Null (w ⊗ 0·0)
unfolding mul
times_zero nan = none
times_zero (inf s) = none
times_zero (fin s m e) = rw (round_zero (unlike s false) (m * up e * 0) (down e * 1) (omega (arith, down_pos e)) (mul-zero (m * up e))) (nought (unlike s false))

-- sums of products of zeros
zero_sum : (f g : ℕ → Float) (n : ℕ) → ((i : ℕ) → i < n → f i ≡ 0·0) → ((i : ℕ) → i < n → g i ≡ 0·0) → product_sum f g n ≡ 0·0
unfolding product_sum add mul
zero_sum f g zero p q = refl
zero_sum f g (suc n) p q =
    rw (zero_sum f g n (λ i h. p i (omega arith)) (λ i h. q i (omega arith)), p n (omega arith), q n (omega arith))

module _ (x : List Float) (len : ℕ) (short : len ≤ 64) (silent : (i : ℕ) → i < 178 → at x i ≡ 0·0) where
  no_correlation : (lag : ℕ) → correlation x len lag ≡ 0·0
  no_correlation lag = zero_sum (window x 114) (window x (114 - lag)) len (λ i h. silent (114 + i) (omega arith)) (λ i h. silent (114 - lag + i) (omega arith))

  no_energy : (lag : ℕ) → energy x len lag ≡ 0·0
  no_energy lag = zero_sum (window x (114 - lag)) (window x (114 - lag)) len (λ i h. silent (114 - lag + i) (omega arith)) (λ i h. silent (114 - lag + i) (omega arith))

  zero_root : (lag : ℕ) → root_at x len lag ≡ Some 0·0
  unfolding root_at root_of mul
  zero_root lag = rw (no_energy 0, no_energy lag)

  nothing_normalised : (lag : ℕ) → normalised x len lag ≡ 0·0
  unfolding normalised div lt
  nothing_normalised lag = rw (no_correlation lag, zero_root lag)

  null_weighted : (i : ℕ) → i < 98 → Null (at (weighted (correlations x len)) i)
  unfolding weighted correlations
  null_weighted i h = rw (list_of_at _ 98 i h, list_of_at (λ k. correlation x len (17 + k)) 98 i h, no_correlation (17 + i)) (times_zero (weight i))

  first_lag : lag1 (correlations x len) ≡ 17
  unfolding lag1
  first_lag =
      let r = weighted (correlations x len) in
      let long = weighted_length (correlations x len) in
      rw (stays_first r (length r) (λ i h. null_lt (null_weighted 0 (omega arith)) (null_weighted i (omega (arith, long)))))

  -- from silence: lag 17, absent, with a correlation and a root of 0.0, whatever the previous lag was
  pub silence : (previous : ℕ) → detected x len previous ≡ record { t_curr = 17; present = false; correlation = 0·0; root = Some 0·0 }
  unfolding detected chosen mul lt round
  silence previous =
      rw (nothing_normalised (lag1 (correlations x len)), nothing_normalised (lag2 (correlations x len) previous), first_lag, no_correlation 17, zero_root 17)
