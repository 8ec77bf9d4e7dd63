-- Three times eight sums: one term more, and two.
use Prim.Native.Nat.{ℕ, suc, ◌+◌, ◌≤◌}
use mathlib.Core.Path.{◌≡◌, ◌∙◌}
use mathlib.Core.List.{List}
use native.Mathlib.Numerals.{add-one}
use native.Mathlib.Omega.{arith}
use borrow.Author.Tests.{le-leb}
use lib.Ieee.{Float}
use lib.ListN.{length}
use Rattle.floats.specs.Single.{at}
use Rattle.lanes.specs.Lanes.{plus, steps, from_zero, Summed, three_correlated}
use Rattle.lanes.specs.declared.Three.{Three}

-- a step of all three
abbrev pub stepped : Three → Float → List Float → ℕ → ℕ → ℕ → Three
stepped s c x i j k = record { first = plus s.first c x i; second = plus s.second c x j; third = plus s.third c x k }

module _ (a x : List Float) (i j k n : ℕ) (s t : Three) (h : Summed a x i j k n s) where
  pub one_more : t ≡ stepped s (at a n) x (i + n) (j + n) (k + n) → Summed a x i j k (suc n) t
  unfolding steps
  one_more e = record { first = rw (e, h.first); second = rw (e, h.second); third = rw (e, h.third) }

pub two_more : (a x : List Float) (i j k n : ℕ) (s t u : Three) → Summed a x i j k n s → t ≡ stepped s (at a n) x (i + n) (j + n) (k + n) →
    u ≡ stepped t (at a (n + 1)) x (i + n + 1) (j + n + 1) (k + n + 1) → Summed a x i j k (n + 2) u
two_more a x i j k n s t u h e f =
    let n1 : n + 1 ≡ suc n = add-one n in
    let n2 : n + 2 ≡ suc (suc n) = omega arith in
    let i1 : i + n + 1 ≡ i + suc n = omega arith in
    let j1 : j + n + 1 ≡ j + suc n = omega arith in
    let k1 : k + n + 1 ≡ k + suc n = omega arith in
    rw n2 (one_more a x i j k (suc n) t u (one_more a x i j k n s t h e) (f ∙ rw (n1, i1, j1, k1)))

-- where x holds all samples
pub three_summed : (a x : List Float) (i j k : ℕ) →
    (i + 8 ≤ length x) × (i + length a + 7 ≤ length x) → (j + 8 ≤ length x) × (j + length a + 7 ≤ length x) → (k + 8 ≤ length x) × (k + length a + 7 ≤ length x) →
    three_correlated a x i j k ≡ record { first = from_zero a x i (length a); second = from_zero a x j (length a); third = from_zero a x k (length a) }
unfolding three_correlated
three_summed a x i j k p q r =
    rw (
      le-leb (i + 8) (length x) p.0,
      le-leb (i + length a + 7) (length x) p.1,
      le-leb (j + 8) (length x) q.0,
      le-leb (j + length a + 7) (length x) q.1,
      le-leb (k + 8) (length x) r.0,
      le-leb (k + length a + 7) (length x) r.1,
    )
