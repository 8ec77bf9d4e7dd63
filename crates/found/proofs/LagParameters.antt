-- What follows from the definitions of the lag parameter.
use Prim.Native.Nat.{ℕ, zero, suc, ◌+◌, ◌-◌, ◌*◌, ◌%◌, ◌≤◌}
use mathlib.Core.Path.{◌≡◌, refl, sym}
use mathlib.Core.Bool.{Bool, true, false, true≢false, cond, ◌&&◌}
use mathlib.Core.List.{List}
use mathlib.Core.Logic.{◌⊎◌, inl, inr}
use native.Mathlib.Omega.{arith}
use borrow.Author.Tests.{ltb-true, leb-true, eqb-true, eqb-false}
use lib.Dec.{eqb, leb, ltb}
use lib.IntN.{ℤ, pos, negsuc, nat_abs, pos-ne-negsuc}
use lib.Signed.{mag, le_z}
use lib.Ieee.{Float, lt}
use lib.ListN.{length}
use Rattle.floats.specs.Single.{at}
use Rattle.lag.specs.Lag.{quarters, index_of}
use Rattle.lag.proofs.Lags.{index_min, lag_index_lag}
use Rattle.found.specs.Taps.{turn}
use Rattle.found.specs.declared.lag_parameter.LagParameter.{LagParameter}
use Rattle.found.specs.LagParameter.{k_min, k_max, whole_search, whole_entry, interpolated, looked_at, fraction_search, fraction_of, carried, lag_among, lag_parameter}
use Rattle.search.specs.Correlate.{correlated}
use Rattle.found.proofs.Turns.{mag_turn}
use Rattle.search.proofs.Correlates.{correlated_length}

-- the whole lags lie between 32 and 228, at least one of them and at most nine
pub lag_bounds : (t : ℕ) → 17 ≤ t → t ≤ 114 → (32 ≤ k_min t) × (k_min t ≤ k_max t) × (k_max t ≤ 228) × (k_max t ≤ k_min t + 8)
lag_bounds t low high = (omega arith, omega arith, omega arith, omega arith)

-- with four more at either end they are 9 to 17 correlations, none of a lag above 232
pub count_bounds : (a b : ℕ) → (32 ≤ a) × (a ≤ b) × (b ≤ 228) × (b ≤ a + 8) →
    (9 ≤ b + 4 - (a - 4) + 1) × (b + 4 - (a - 4) + 1 ≤ 17) × (a - 4 + (b + 4 - (a - 4) + 1) ≤ 233)
count_bounds a b h = (omega arith, omega arith, omega arith)

-- the search for the whole lag stays among the entries that it looks at
pub whole_range : (r : List Float) (n : ℕ) → (4 ≤ (whole_search r n).place) × ((whole_search r n).place ≤ 4 + (n - 1))
unfolding whole_search
whole_range r zero = omega arith
whole_range r (suc n) = go (lt (whole_search r n).value (at r (n + 4))) (whole_range r n)
  where
    go : (b : Bool) → (4 ≤ (whole_search r n).place) × ((whole_search r n).place ≤ 4 + (n - 1)) →
        (4 ≤ (cond b (record { place = n + 4; value = at r (n + 4) }) (whole_search r n)).place) × ((cond b (record { place = n + 4; value = at r (n + 4) }) (whole_search r n)).place ≤ 4 + (suc n - 1))
    go true h = omega arith
    go false h = omega arith

-- a fraction that was found is 0 or one that is looked at
module _ (r : List Float) (e whole : ℕ) (h : List Float) where
  pub fraction_found : (j : ℕ) → let d = (fraction_search r e whole h j).place in (d ≡ pos 0) ⊎ (looked_at whole d ≡ true)
  unfolding fraction_search
  fraction_found zero = inl refl
  fraction_found (suc j) =
      go (looked_at whole (turn 3 j)) (lt (fraction_search r e whole h j).value (interpolated r e (turn 3 j) h 9)) refl (fraction_found j)
    where
      go : (b c : Bool) → looked_at whole (turn 3 j) ≡ b → ((fraction_search r e whole h j).place ≡ pos 0) ⊎ (looked_at whole (fraction_search r e whole h j).place ≡ true) →
          let d = (cond b (cond c (record { place = turn 3 j; value = interpolated r e (turn 3 j) h 9 }) (fraction_search r e whole h j)) (fraction_search r e whole h j)).place in
          (d ≡ pos 0) ⊎ (looked_at whole d ≡ true)
      go true true p was = inr p
      go true false p was = was
      go false c p was = was

  -- it is -3 to 3
  pub fraction_range : (j : ℕ) → j ≤ 7 → mag (fraction_search r e whole h j).place ≤ 3
  unfolding fraction_search
  fraction_range zero u = omega arith
  fraction_range (suc j) u =
      go (looked_at whole (turn 3 j)) (lt (fraction_search r e whole h j).value (interpolated r e (turn 3 j) h 9)) (mag_turn 2 j (omega arith)) (fraction_range j (omega arith))
    where
      go : (b c : Bool) → mag (turn 3 j) ≤ 3 → mag (fraction_search r e whole h j).place ≤ 3 →
          mag (cond b (cond c (record { place = turn 3 j; value = interpolated r e (turn 3 j) h 9 }) (fraction_search r e whole h j)) (fraction_search r e whole h j)).place ≤ 3
      go true true p was = p
      go true false p was = was
      go false c p was = was

-- what it says of a fraction that it is looked at
looked_facts : (whole : ℕ) (d : ℤ) → looked_at whole d ≡ true →
    (whole ≡ 32 → le_z (pos 0) d ≡ true) × ((127 ≤ whole) → (whole ≤ 156) × (nat_abs d % 2 ≡ 0))
unfolding looked_at
looked_facts whole d = go (eqb whole 32) (ltb whole 127) (leb whole 156) (eqb (nat_abs d % 2) 0) refl refl refl refl
  where
    go : (a b c e : Bool) → eqb whole 32 ≡ a → ltb whole 127 ≡ b → leb whole 156 ≡ c → eqb (nat_abs d % 2) 0 ≡ e → cond a (le_z (pos 0) d) (cond b true (c && e)) ≡ true →
        (whole ≡ 32 → le_z (pos 0) d ≡ true) × ((127 ≤ whole) → (whole ≤ 156) × (nat_abs d % 2 ≡ 0))
    go true b c e p q r s h = (λ w. h, λ w. absurd (omega (arith, eqb-true whole 32 p)))
    go false true c e p q r s h = (λ w. absurd (eqb-false whole 32 p w), λ w. absurd (omega (arith, ltb-true whole 127 q)))
    go false false true true p q r s h = (λ w. absurd (eqb-false whole 32 p w), λ w. (leb-true whole 156 r, eqb-true (nat_abs d % 2) 0 s))
    go false false true false p q r s h = absurd (true≢false (sym h))
    go false false false e p q r s h = absurd (true≢false (sym h))

-- a lag that an encoder may send: whole lags of 32 to 228 with all quarters below 127, halves from there to 156, and none above
pub record Sendable (p : LagParameter) : Type 0 where
  pub index : p.pitch_index ≡ index_of p.pitch_int p.pitch_fr
  pub low : 32 ≤ p.pitch_int
  pub high : p.pitch_int ≤ 228
  pub quarters : p.pitch_fr ≤ 3
  pub halves : (127 ≤ p.pitch_int) → p.pitch_fr % 2 ≡ 0
  pub wholes : (157 ≤ p.pitch_int) → p.pitch_fr ≡ 0

-- the carry keeps it so: a lag of 127 with a fraction of -2 goes out as 126 and 2, and one of 32 has no fraction to carry
pub carried_sendable : (whole : ℕ) (d : ℤ) → 32 ≤ whole → whole ≤ 228 → mag d ≤ 3 → (d ≡ pos 0) ⊎ (looked_at whole d ≡ true) → Sendable (carried whole d)
carried_sendable whole (pos f) low high small (inl e) =
    let zero_f : f ≡ 0 = cc in
    record { index = refl; low = low; high = high; quarters = small; halves = λ w. omega arith; wholes = λ w. zero_f }
carried_sendable whole (pos f) low high small (inr e) =
    let facts = looked_facts whole (pos f) e in
    record { index = refl; low = low; high = high; quarters = small; halves = λ w. (facts.1 w).1; wholes = λ w. absurd (omega (arith, facts.1 (omega arith))) }
carried_sendable whole (negsuc f) low high small (inl e) = absurd (pos-ne-negsuc 0 f (sym e))
carried_sendable whole (negsuc f) low high small (inr e) =
    let facts = looked_facts whole (negsuc f) e in
    record {
      index = refl;
      low = above (eqb whole 32) refl;
      high = omega arith;
      quarters = omega arith;
      halves = λ w. omega (arith, facts.1 (omega arith));
      wholes = λ w. absurd (omega (arith, facts.1 (omega arith)));
    }
  where
    above : (b : Bool) → eqb whole 32 ≡ b → 32 ≤ whole - 1
    above true p = absurd (true≢false (sym ((looked_facts whole (negsuc f) e).0 (eqb-true whole 32 p))))
    above false p = let other : whole ≡ 32 → ⊥ = eqb-false whole 32 p in omega arith

-- every lag that is found can be sent
pub among_sendable : (r : List Float) (from : ℕ) (h : List Float) → 9 ≤ length r → 28 ≤ from → from + length r ≤ 233 → Sendable (lag_among r from h)
unfolding lag_among
among_sendable r from h long low high =
    let e = whole_entry r in
    let range = whole_range r (length r - 8) in
    carried_sendable (e + from) (fraction_of r e (e + from) h) (omega (arith, range)) (omega (arith, range)) (fraction_range r e (e + from) h 7 (omega arith)) (fraction_found r e (e + from) h 7)

pub parameter_sendable : (x : List Float) (start len t : ℕ) (h : List Float) → 17 ≤ t → t ≤ 114 → Sendable (lag_parameter x start len t h)
unfolding lag_parameter
parameter_sendable x start len t h low high = go (k_min t) (k_max t) (lag_bounds t low high)
  where
    go : (a b : ℕ) → (32 ≤ a) × (a ≤ b) × (b ≤ 228) × (b ≤ a + 8) → Sendable (lag_among (correlated x start len (a - 4) (b + 4 - (a - 4) + 1)) (a - 4) h)
    go a b p =
        let count = correlated_length x start len (a - 4) (b + 4 - (a - 4) + 1) in
        let bounds = count_bounds a b p in
        among_sendable (correlated x start len (a - 4) (b + 4 - (a - 4) + 1)) (a - 4) h (omega (arith, count, bounds)) (omega arith) (omega (arith, count, bounds))

-- its index is one of 0 to 511, and the decoder reads the same lag from it
pub index_sound : (p : LagParameter) → Sendable p → (p.pitch_index ≤ 511) × (quarters p.pitch_index ≡ 4 * p.pitch_int + p.pitch_fr)
index_sound p s =
    rw s.index (
      omega (arith, index_min p.pitch_int p.pitch_fr s.low s.quarters, s.high),
      lag_index_lag p.pitch_int p.pitch_fr s.low s.high s.quarters s.halves s.wholes,
    )
