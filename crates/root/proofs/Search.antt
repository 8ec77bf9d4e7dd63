-- `root_bits` gives the float that is nearest to the root: what the search by halves finds is past the midpoint below, and not past that above. Assumes nothing.
use mathlib.Core.Path.{◌≡◌, refl, subst}
use mathlib.Core.Logic.{⊎_elim}
use mathlib.Core.Bool.{Bool, true, false, cond}
use Prim.Native.Nat.{ℕ, zero, suc, ◌+◌, ◌-◌, ◌*◌, ◌^◌, ◌≤◌, ◌<◌}
use native.Mathlib.Nat.{lt_trans, lt_of_lt_of_le, mul-lt-mul_of_pos_right, mul-le-mul_right, pow-suc}
use native.Mathlib.Omega.{arith}
use lib.Dec.{lit<, lit≤}
use lib.Pow.{pow_pos}
use borrow.Author.Tests.{ltb-true, ltb-false}
use Rattle.root.specs.SquareRoot.{units, field_units, mid_square, root_square, Nearest, past, last_passed, root_bits}
use Rattle.root.proofs.Order.{lt_or_le}
use Rattle.root.proofs.Units.{units_lt, mid_le}
use Rattle.root.proofs.Nearest.{Past, NotPast, nearest_between}

-- the search has passed the midpoint below b
abbrev Passed : ℕ → ℕ → Type 0
Passed n b = 0 < b → Past n (b - 1)

search_finds : (n d b : ℕ) → Passed n b → NotPast n (b + 2 ^ d - 1) → Passed n (last_passed n d b) × NotPast n (last_passed n d b)
unfolding last_passed
search_finds n zero b s e = (s, subst (NotPast n) (omega arith) e)
search_finds n (suc d) b s e =
    go (past n (b + 2 ^ d - 1)) (λ t. ltb-true _ _ (unfold past in t)) (λ t. ltb-false _ _ (unfold past in t)) (search_finds n d b s) (λ p. search_finds n d (b + 2 ^ d) (λ z. p))
  where
    Found : ℕ → Type 0
    Found c = Passed n (last_passed n d c) × NotPast n (last_passed n d c)

    go : (t : Bool) → (t ≡ true → Past n (b + 2 ^ d - 1)) → (t ≡ false → NotPast n (b + 2 ^ d - 1))
        → (NotPast n (b + 2 ^ d - 1) → Found b) → (Past n (b + 2 ^ d - 1) → NotPast n (b + 2 ^ d + 2 ^ d - 1) → Found (b + 2 ^ d)) → Found (cond t (b + 2 ^ d) b)
    go true p q lower upper = upper (p refl) (subst (NotPast n) (omega (arith, pow-suc 2 d)) e)
    go false p q lower upper = lower (q refl)

-- zero and what infinity's pattern would stand for; the first midpoint, and the last one below infinity
ends : (units 0 ≡ 0) × (units 0x7f80_0000 ≡ 2 ^ 277) × (mid_square 0 ≡ 1) × (2 ^ 277 * 2 ^ 151 < mid_square 0x7f7f_ffff)
unfolding units field_units mid_square
ends = (refl, refl, refl, lit< tt)

module _ (a : ℕ) (positive : 0 < a) (finite : a < 0x7f80_0000) where
  square_low : mid_square 0 < root_square a
  unfolding root_square
  square_low = rw ends.2 (lt_of_lt_of_le (lit< tt) (mul-le-mul_right (2 ^ 151) (rw ends.0 at (units_lt positive))))

  square_high : root_square a < mid_square 0x7f7f_ffff
  unfolding root_square
  square_high = lt_trans (mul-lt-mul_of_pos_right (rw ends.1 at (units_lt finite)) (pow_pos 151)) ends.3

  -- no root is past the midpoint below infinity, or past any further one
  not_past_high : (b : ℕ) → 0x7f7f_ffff ≤ b → NotPast (root_square a) b
  not_past_high b h = omega (arith, square_high, mid_le h)

  pub root_bits_nearest : Nearest (root_square a) (root_bits a)
  unfolding root_bits
  root_bits_nearest =
      let found = search_finds (root_square a) 31 0 (λ z. omega arith) (not_past_high (2 ^ 31 - 1) (lit≤ tt)) in
      let b = last_passed (root_square a) 31 0 in
      let above_zero : 0 < b = ⊎_elim (λ l. l) (λ z. absurd (omega (arith, square_low, found.1, mid_le z))) (lt_or_le 0 b) in
      let below_infinity : b < 0x7f80_0000 = ⊎_elim (λ l. l) (λ l. absurd (omega (arith, found.0 above_zero, not_past_high (b - 1) (omega arith)))) (lt_or_le b 0x7f80_0000) in
      nearest_between (root_square a) b above_zero below_infinity (found.0 above_zero) found.1
