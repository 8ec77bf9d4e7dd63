-- What follows from the definitions of the pitch search.
use Prim.Native.Nat.{ℕ, zero, suc, ◌+◌, ◌-◌, ◌*◌, ◌≤◌, ◌<◌, min, max}
use mathlib.Core.Path.{◌≡◌, refl, sym, ◌∙◌}
use mathlib.Core.Bool.{Bool, true, false, true≢false, cond, ◌&&◌}
use mathlib.Core.List.{List}
use native.Mathlib.Omega.{arith}
use borrow.Author.Tests.{ltb-true, le-ltb, ne_eqb, leb-true, le-leb}
use lib.Dec.{leb}
use lib.Ieee.{Float, nan, inf, fin, up, down, lt, div, round}
use lib.ListN.{length, take, drop, length-take, length-drop}
use Rattle.floats.specs.Single.{◌⊗◌, 0·0, decimal, at}
use Rattle.root.specs.SquareRoot.{root_of}
use Rattle.std.proofs.Common.{Some}
use Rattle.search.specs.Pitch.{correlation, energy, correlations, weight, weighted, searched, index_of_max, near_from, near_to, lag1, lag2, over_root, root_at, normalised, candidate_at, with_presence, chosen, detected, lag_within}
use Rattle.search.specs.declared.pitch.Candidate.{Candidate}
use Rattle.search.proofs.Listed.{list_of_length, list_of_at}

-- a search among n entries stays among them
pub searched_below : (s : List Float) (n : ℕ) → 0 < n → searched s n < n
unfolding searched
searched_below s zero h = h
searched_below s (suc n) h = go n (lt (at s (searched s n)) (at s n)) (searched_below s n)
  where
    go : (m : ℕ) (b : Bool) → (0 < m → searched s m < m) → cond b m (searched s m) < suc m
    go m true below = omega arith
    go zero false below = omega arith
    go (suc m) false below = omega (arith, below (omega arith))

-- where no entry is greater than the first, it stays there
pub stays_first : (s : List Float) (n : ℕ) → ((i : ℕ) → i < n → lt (at s 0) (at s i) ≡ false) → searched s n ≡ 0
unfolding searched
stays_first s zero none = refl
stays_first s (suc n) none = rw (stays_first s n (λ i h. none i (omega arith)), none n (omega arith))

-- a NaN never wins later
pub nan_never_wins : (s : List Float) (n : ℕ) → at s n ≡ nan → searched s (suc n) ≡ searched s n
unfolding searched lt
nan_never_wins s n e = rw (e, below_nan (at s (searched s n)))
  where
    below_nan : (x : Float) → lt x nan ≡ false
    below_nan nan = refl
    below_nan (inf t) = refl
    below_nan (fin t m d) = refl

-- a tie goes to the smaller entry
pub tie_stays : (s : List Float) (n : ℕ) → at s n ≡ at s (searched s n) → searched s (suc n) ≡ searched s n
unfolding searched lt
tie_stays s n e = rw (e, below_itself (at s (searched s n)))
  where
    below_itself : (x : Float) → lt x x ≡ false
    below_itself nan = refl
    below_itself (inf false) = refl
    below_itself (inf true) = refl
    below_itself (fin false m d) = le-ltb (m * up d * down d) (m * up d * down d) (omega arith)
    below_itself (fin true m d) = le-ltb (m * up d * down d) (m * up d * down d) (omega arith)

pub weighted_length : (r : List Float) → length (weighted r) ≡ 98
unfolding weighted
weighted_length r = list_of_length (λ k. weight k ⊗ at r k) 98

-- the first lag is one of 17 to 114
pub lag1_range : (r : List Float) → (17 ≤ lag1 r) × (lag1 r ≤ 114)
unfolding lag1
lag1_range r = omega (arith, weighted_length r, searched_below (weighted r) (length (weighted r)) (omega (arith, weighted_length r)))

part_length : (r : List Float) (a b : ℕ) → b ≤ length r → length (take (b - a) (drop a r)) ≡ b - a
part_length r a b u = simp (length-take, length-drop) (omega arith)

-- a search in the part from a to b, counted in the whole, is below b
part_below : (r : List Float) (a b : ℕ) → a < b → b ≤ length r → index_of_max (take (b - a) (drop a r)) + a < b
part_below r a b h u =
    omega (arith, part_length r a b u, searched_below (take (b - a) (drop a r)) (length (take (b - a) (drop a r))) (omega (arith, part_length r a b u)))

-- the second search has a part to look at
pub near_part : (previous : ℕ) → 17 ≤ previous → previous ≤ 114 →
    (near_from previous + 17 ≡ max 17 (previous - 4)) × (near_to previous + 16 ≡ min 114 (previous + 4)) × (near_from previous < near_to previous) × (near_to previous ≤ 98)
near_part previous low high = (omega arith, omega arith, omega arith, omega arith)

-- the second lag is near the previous one
pub lag2_range : (r : List Float) (previous : ℕ) → length r ≡ 98 → 17 ≤ previous → previous ≤ 114 →
    (max 17 (previous - 4) ≤ lag2 r previous) × (lag2 r previous ≤ min 114 (previous + 4))
unfolding lag2
lag2_range r previous l low high = go (near_from previous) (near_to previous) (near_part previous low high)
  where
    go : (a b : ℕ) → (a + 17 ≡ max 17 (previous - 4)) × (b + 16 ≡ min 114 (previous + 4)) × (a < b) × (b ≤ 98) →
        (max 17 (previous - 4) ≤ index_of_max (take (b - a) (drop a r)) + a + 17) × (index_of_max (take (b - a) (drop a r)) + a + 17 ≤ min 114 (previous + 4))
    go a b p = omega (arith, part_below r a b p.2 (omega arith))

pub correlations_length : (x : List Float) (len : ℕ) → length (correlations x len) ≡ 98
unfolding correlations
correlations_length x len = list_of_length _ 98

pub correlations_at : (x : List Float) (len lag : ℕ) → 17 ≤ lag → lag ≤ 114 → at (correlations x len) (lag - 17) ≡ correlation x len lag
unfolding correlations
correlations_at x len lag low high =
    let same : 17 + (lag - 17) ≡ lag = omega arith in
    list_of_at _ 98 (lag - 17) (omega arith) ∙ rw same

chosen_range : (a b : Candidate) → (17 ≤ a.lag) × (a.lag ≤ 114) → (17 ≤ b.lag) × (b.lag ≤ 114) →
    (17 ≤ (chosen a b).t_curr) × ((chosen a b).t_curr ≤ 114)
unfolding chosen
chosen_range a b p q = go (lt (decimal 85 2 ⊗ a.normcorr) b.normcorr)
  where
    go : (w : Bool) → let d = cond w (with_presence b) (with_presence a) in (17 ≤ d.t_curr) × (d.t_curr ≤ 114)
    go true = q
    go false = p

-- the lag of a frame is one of 17 to 114
pub detected_range : (x : List Float) (len previous : ℕ) → 17 ≤ previous → previous ≤ 114 →
    (17 ≤ (detected x len previous).t_curr) × ((detected x len previous).t_curr ≤ 114)
unfolding detected
detected_range x len previous low high =
    let r = correlations x len in
    chosen_range (candidate_at x len (lag1 r)) (candidate_at x len (lag2 r previous)) (lag1_range r) (omega (arith, lag2_range r previous (correlations_length x len) low high))

-- a correlation above 0.0 over a root of 0.0 is infinite
pub zero_root_is_infinite : (r : Float) → lt 0·0 r ≡ true → over_root r (Some 0·0) ≡ inf false
unfolding lt div
zero_root_is_infinite nan h = absurd (true≢false (sym h))
zero_root_is_infinite (inf true) h = absurd (true≢false (sym h))
zero_root_is_infinite (inf false) h = refl
zero_root_is_infinite (fin true m e) h = absurd (true≢false (sym h))
zero_root_is_infinite (fin false zero e) h = absurd (omega (arith, ltb-true (0 * down e) (0 * up e * 1) h))
zero_root_is_infinite (fin false (suc m) e) h = rw (ne_eqb (suc m) 0 (λ z. omega arith))

-- energies whose product is rounded to 0.0 make a correlation above 0.0 infinite, and the pitch at that lag present
pub zero_energies : (x : List Float) (len lag : ℕ) → energy x len 0 ⊗ energy x len lag ≡ 0·0 → lt 0·0 (correlation x len lag) ≡ true →
    (normalised x len lag ≡ inf false) × ((with_presence (candidate_at x len lag)).present ≡ true)
unfolding normalised root_at root_of lt round
zero_energies x len lag z h =
    let infinite : normalised x len lag ≡ inf false = rw z (zero_root_is_infinite (correlation x len lag) h) in
    (infinite, rw infinite)

-- the lag that the second search starts from
pub within_range : (t : ℕ) → (17 ≤ lag_within t) × (lag_within t ≤ 114)
within_range t = go (leb 17 t) (leb t 114) refl refl
  where
    go : (a b : Bool) → leb 17 t ≡ a → leb t 114 ≡ b → (17 ≤ cond (a && b) t 17) × (cond (a && b) t 17 ≤ 114)
    go true true p q = (leb-true 17 t p, leb-true t 114 q)
    go true false p q = omega arith
    go false b p q = omega arith

pub within_same : (t : ℕ) → 17 ≤ t → t ≤ 114 → lag_within t ≡ t
within_same t low high = rw (le-leb 17 t low, le-leb t 114 high)
