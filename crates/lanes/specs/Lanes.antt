-- Eight sums side by side: sum j of a step takes the sample j places after the first sum's.
use Rattle.std.specs.Prelude.{ℕ, zero, suc, ◌+◌, ◌-◌, Bool, cond, ◌&&◌, List, [], ◌∷◌, ◌≡◌, leb, Float, length}
use Rattle.floats.specs.Single.{◌⊕◌, ◌⊖◌, ◌⊗◌, 0·0, at}
use Rattle.lanes.specs.declared.Lanes.{Lanes}
use Rattle.lanes.specs.declared.Three.{Three}

abbrev pub all : Float → Lanes
all v = record { s0 = v; s1 = v; s2 = v; s3 = v; s4 = v; s5 = v; s6 = v; s7 = v }

-- the eight in a row
unfoldable pub listed : Lanes → List Float
listed s = s.s0 ∷ s.s1 ∷ s.s2 ∷ s.s3 ∷ s.s4 ∷ s.s5 ∷ s.s6 ∷ s.s7 ∷ []

-- c times the samples from i on, by an operation of the sum and the product
abbrev pub combined : (Float → Float → Float) → Lanes → Float → List Float → ℕ → Lanes
combined of s c x i = record {
  s0 = of s.s0 (c ⊗ at x i);
  s1 = of s.s1 (c ⊗ at x (i + 1));
  s2 = of s.s2 (c ⊗ at x (i + 2));
  s3 = of s.s3 (c ⊗ at x (i + 3));
  s4 = of s.s4 (c ⊗ at x (i + 4));
  s5 = of s.s5 (c ⊗ at x (i + 5));
  s6 = of s.s6 (c ⊗ at x (i + 6));
  s7 = of s.s7 (c ⊗ at x (i + 7));
}

-- added
abbrev pub plus : Lanes → Float → List Float → ℕ → Lanes
plus s c x i = combined ◌⊕◌ s c x i

-- where x holds all eight samples
unfoldable pub row_added : Lanes → Float → List Float → ℕ → Lanes
row_added s c x i = cond (leb (i + 8) (length x)) (plus s c x i) s

-- and subtracted
abbrev pub minus : Lanes → Float → List Float → ℕ → Lanes
minus s c x i = combined ◌⊖◌ s c x i

-- a step for each of the first n numbers: the sums so far, the number, the step's place
unfoldable pub steps : (Lanes → ℕ → Lanes) → Lanes → ℕ → Lanes
steps step s zero = s
steps step s (suc n) = step (steps step s n) n

-- all samples from i − k to i + 7 are there
abbrev pub fir_inside : List Float → List Float → ℕ → Bool
fir_inside c x i = leb (i + 8) (length x) && leb (length c) (i + 1)

-- c times the samples from i backwards, by an operation; where they are all there
unfoldable pub fir : (Float → Float → Float) → Lanes → List Float → List Float → ℕ → Lanes
unfolding steps
fir of s c x i = cond (fir_inside c x i) (steps (λ t k. combined of t (at c k) x (i - k)) s (length c)) s

-- added, and subtracted
abbrev pub fir_added : Lanes → List Float → List Float → ℕ → Lanes
fir_added s c x i = fir ◌⊕◌ s c x i

abbrev pub fir_taken : Lanes → List Float → List Float → ℕ → Lanes
fir_taken s c x i = fir ◌⊖◌ s c x i

-- x holds all samples that eight sums of the length of a read from i on
abbrev pub holds : List Float → List Float → ℕ → Bool
holds a x i = leb (i + 8) (length x) && leb (i + length a + 7) (length x)

-- the first n terms of eight sums from 0.0
abbrev pub from_zero : List Float → List Float → ℕ → ℕ → Lanes
from_zero a x i n = steps (λ t m. plus t (at a m) x (i + m)) (all 0·0) n

-- at three places
pub record Summed (a x : List Float) (i j k n : ℕ) (r : Three) : Type 0 where
  pub first : r.first ≡ from_zero a x i n
  pub second : r.second ≡ from_zero a x j n
  pub third : r.third ≡ from_zero a x k n

unfoldable pub three_correlated : List Float → List Float → ℕ → ℕ → ℕ → Three
unfolding steps
three_correlated a x i j k =
    cond (holds a x i && (holds a x j && holds a x k))
    (record { first = from_zero a x i (length a); second = from_zero a x j (length a); third = from_zero a x k (length a) })
    (record { first = all 0·0; second = all 0·0; third = all 0·0 })

-- one of the eight, its place, and its sum
pub data Lane : Type 0 where
  l0 l1 l2 l3 l4 l5 l6 l7 : Lane

abbrev pub place : Lane → ℕ
place l0 = 0
place l1 = 1
place l2 = 2
place l3 = 3
place l4 = 4
place l5 = 5
place l6 = 6
place l7 = 7

abbrev pub lane : Lane → Lanes → Float
lane l0 s = s.s0
lane l1 s = s.s1
lane l2 s = s.s2
lane l3 s = s.s3
lane l4 s = s.s4
lane l5 s = s.s5
lane l6 s = s.s6
lane l7 s = s.s7

-- the first n terms joined to a start, by an operation
unfoldable pub joined : (Float → Float → Float) → (ℕ → Float) → Float → ℕ → Float
joined of term start zero = start
joined of term start (suc n) = of (joined of term start n) (term n)

-- a sum that adds them to its start, and one that subtracts them
abbrev pub added : (ℕ → Float) → Float → ℕ → Float
added term start n = joined ◌⊕◌ term start n

abbrev pub taken : (ℕ → Float) → Float → ℕ → Float
taken term start n = joined ◌⊖◌ term start n
