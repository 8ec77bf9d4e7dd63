-- Each of the eight sums is what a sum by itself would be, with its own samples in its own order.
use Prim.Native.Nat.{ℕ, zero, suc, ◌+◌, ◌-◌, ◌≤◌, ◌<◌}
use mathlib.Core.Path.{◌≡◌, refl, ◌∙◌}
use mathlib.Core.List.{List}
use native.Mathlib.Nat.{add-zero}
use native.Mathlib.Omega.{arith}
use borrow.Author.Tests.{le-leb}
use lib.Ieee.{Float}
use lib.ListN.{length}
use Rattle.floats.specs.Single.{◌⊕◌, ◌⊖◌, ◌⊗◌, 0·0, at}
use Rattle.lanes.specs.Lanes.{all, listed, row_added, combined, plus, steps, fir, fir_added, fir_taken, from_zero, Lane, l0, l1, l2, l3, l4, l5, l6, l7, place, lane, joined, added, taken}
use Rattle.slices.specs.Slices.{placed}
use Rattle.slices.specs.Written.{written}
use Rattle.slices.proofs.Written.{placed_written}
use Rattle.lanes.specs.declared.Lanes.{Lanes}

pub lane_all : (j : Lane) (v : Float) → lane j (all v) ≡ v
lane_all l0 v = refl
lane_all l1 v = refl
lane_all l2 v = refl
lane_all l3 v = refl
lane_all l4 v = refl
lane_all l5 v = refl
lane_all l6 v = refl
lane_all l7 v = refl

-- a place in the row
pub place_few : (l : Lane) → place l < 8
place_few l0 = omega arith
place_few l1 = omega arith
place_few l2 = omega arith
place_few l3 = omega arith
place_few l4 = omega arith
place_few l5 = omega arith
place_few l6 = omega arith
place_few l7 = omega arith

-- the places of the eight are the numbers below 8
pub each_place : (P : ℕ → Type 0) → ((j : Lane) → P (place j)) → (n : ℕ) → n < 8 → P n
each_place P f zero h = f l0
each_place P f (suc zero) h = f l1
each_place P f (suc (suc zero)) h = f l2
each_place P f (suc (suc (suc zero))) h = f l3
each_place P f (suc (suc (suc (suc zero)))) h = f l4
each_place P f (suc (suc (suc (suc (suc zero))))) h = f l5
each_place P f (suc (suc (suc (suc (suc (suc zero)))))) h = f l6
each_place P f (suc (suc (suc (suc (suc (suc (suc zero))))))) h = f l7
each_place P f (suc (suc (suc (suc (suc (suc (suc (suc n)))))))) h = absurd (omega arith)

pub lane_at : (s : Lanes) (j : Lane) → at (listed s) (place j) ≡ lane j s
unfolding listed
lane_at s l0 = refl
lane_at s l1 = refl
lane_at s l2 = refl
lane_at s l3 = refl
lane_at s l4 = refl
lane_at s l5 = refl
lane_at s l6 = refl
lane_at s l7 = refl

-- a fact of every lane is one of every place in the row
pub by_lanes : (s : Lanes) (want : ℕ → Float) → ((l : Lane) → lane l s ≡ want (place l)) → (j : ℕ) → j < length (listed s) → at (listed s) j ≡ want j
unfolding listed
by_lanes s want h j l = each_place (λ k. at (listed s) k ≡ want k) (λ k. lane_at s k ∙ h k) j l

-- eight that are put in are written one by one
pub placed_eight : (l : List Float) (i : ℕ) (s : Lanes) → i + 8 ≤ length l → placed l i (listed s) ≡ written l i (at (listed s)) 8
unfolding listed
placed_eight l i s h = placed_written l (listed s) i h

lane_combined : (of : Float → Float → Float) (j : Lane) (s : Lanes) (c : Float) (x : List Float) (i : ℕ) → lane j (combined of s c x i) ≡ of (lane j s) (c ⊗ at x (i + place j))
lane_combined of l0 s c x i = rw add-zero
lane_combined of l1 s c x i = refl
lane_combined of l2 s c x i = refl
lane_combined of l3 s c x i = refl
lane_combined of l4 s c x i = refl
lane_combined of l5 s c x i = refl
lane_combined of l6 s c x i = refl
lane_combined of l7 s c x i = refl

-- a row's sample added to its own sum
pub lane_row : (j : Lane) (s : Lanes) (c : Float) (x : List Float) (i : ℕ) → i + 8 ≤ length x → lane j (row_added s c x i) ≡ lane j s ⊕ c ⊗ at x (i + place j)
unfolding row_added
lane_row j s c x i h = rw (le-leb (i + 8) (length x) h) (lane_combined ◌⊕◌ j s c x i)

module _ (of : Float → Float → Float) (j : Lane) (s : Lanes) (c x : List Float) (i : ℕ) where
  falling : (n : ℕ) → n ≤ i + 1 →
      lane j (steps (λ t k. combined of t (at c k) x (i - k)) s n) ≡ joined of (λ k. at c k ⊗ at x (i + place j - k)) (lane j s) n
  unfolding steps joined
  falling zero l = refl
  falling (suc n) l =
      let e : i - n + place j ≡ i + place j - n = omega arith in
      lane_combined of j (steps (λ t k. combined of t (at c k) x (i - k)) s n) (at c n) x (i - n) ∙ rw (falling n (omega arith), e)

  -- where x holds all samples, the eight sums are eight sums
  fir_lem : i + 8 ≤ length x → length c ≤ i + 1 →
      lane j (fir of s c x i) ≡ joined of (λ k. at c k ⊗ at x (i + place j - k)) (lane j s) (length c)
  unfolding fir
  fir_lem p q = rw (le-leb (i + 8) (length x) p, le-leb (length c) (i + 1) q) (falling (length c) q)

module _ (j : Lane) (s : Lanes) (c x : List Float) (i : ℕ) where
  rising_added : (n : ℕ) →
      lane j (steps (λ t m. plus t (at c m) x (i + m)) s n) ≡ added (λ m. at c m ⊗ at x (i + m + place j)) (lane j s) n
  unfolding steps joined
  rising_added zero = refl
  rising_added (suc n) =
      lane_combined ◌⊕◌ j (steps (λ t m. plus t (at c m) x (i + m)) s n) (at c n) x (i + n) ∙ rw (rising_added n)

  pub fir_added_lem : i + 8 ≤ length x → length c ≤ i + 1 →
      lane j (fir_added s c x i) ≡ added (λ k. at c k ⊗ at x (i + place j - k)) (lane j s) (length c)
  fir_added_lem p q = fir_lem ◌⊕◌ j s c x i p q

  pub fir_taken_lem : i + 8 ≤ length x → length c ≤ i + 1 →
      lane j (fir_taken s c x i) ≡ taken (λ k. at c k ⊗ at x (i + place j - k)) (lane j s) (length c)
  fir_taken_lem p q = fir_lem ◌⊖◌ j s c x i p q

-- a sum from 0.0
pub from_zero_added : (j : Lane) (a x : List Float) (i n : ℕ) → lane j (from_zero a x i n) ≡ added (λ m. at a m ⊗ at x (i + m + place j)) 0·0 n
from_zero_added j a x i n = rw (lane_all j 0·0) at (rising_added j (all 0·0) a x i n)
