-- Laws of a loop whose variable is signed and runs from -(a + 1) to a + 1: the variable z counts the turns that it has passed, of 2 · a + 3.
use Prim.Native.Nat.{ℕ, zero, suc, ◌+◌, ◌-◌, ◌*◌, ◌≤◌, ◌<◌}
use mathlib.Core.Path.{◌≡◌, refl, sym, subst, ◌∙◌, ap}
use mathlib.Core.Bool.{Bool, true, false, cond}
use native.Mathlib.Omega.{arith}
use Rattle.std.proofs.lemmas.Int.{ints}
use borrow.Author.Tests.{ltb-true, ltb-false, leb-true, le-ltb}
use lib.Dec.{T, ltb}
use lib.IntN.{ℤ, pos, negsuc, neg_ℤ, nat_abs, ◌+ℤ◌}
use lib.Signed.{mag, non_neg, le_z}
use mir.Syntax.{w32}
use mir.Val.{SFits, to_z, of_z}
use mir.ValLaws.{to_z-of_z}
use Rattle.found.specs.Taps.{turn, moved}
use Rattle.found.proofs.Signs.{small, mag_sum}

-- how many turns a loop from -a has passed, by its variable
abbrev pub passed : ℕ → ℤ → ℕ
passed a z = nat_abs (z +ℤ pos a)

-- what holds of a turn's number holds where it is negative and where it is not
by_sign : (a j : ℕ) (P : ℤ → Type 0) → (j < suc a → P (negsuc (suc a - suc j))) → (suc a ≤ j → P (pos (j - suc a))) → P (turn (suc a) j)
by_sign a j P f g = go (ltb j (suc a)) refl
  where
    go : (t : Bool) → ltb j (suc a) ≡ t → P (cond t (negsuc (suc a - suc j)) (pos (j - suc a)))
    go true e = f (ltb-true j (suc a) e)
    go false e = g (ltb-false j (suc a) e)

-- it is no larger than where the loop starts and ends
pub mag_turn : (a j : ℕ) → j ≤ 2 * suc a → mag (turn (suc a) j) ≤ suc a
mag_turn a j h = by_sign a j (λ z. mag z ≤ suc a) (λ u. omega arith) (λ u. omega arith)

-- the number of a turn tells the turn, and one more is the next turn's
pub passed_turn : (a j : ℕ) → passed a (turn a j) ≡ j
passed_turn a j = let e : turn a j +ℤ pos a ≡ pos j = omega (arith, ints) in ap nat_abs e

turn_more : (a j : ℕ) → turn a j +ℤ pos 1 ≡ turn a (suc j)
turn_more a j = omega (arith, ints)

-- what is known in a turn: the variable's number and size, how many turns are over, and the step to the next turn, as the machine reads it back
pub record Turn (a : ℕ) (z : ℤ) : Type 0 where
  pub number : z ≡ turn (suc a) (passed (suc a) z)
  pub over : passed (suc a) z ≤ 2 * suc a
  pub size : mag z ≤ suc a
  pub fits : SFits w32 (z +ℤ pos 1)
  pub again : to_z w32 (of_z w32 (z +ℤ pos 1)) ≡ turn (suc a) (passed (suc a) (to_z w32 (of_z w32 (z +ℤ pos 1))))
  pub next : passed (suc a) (to_z w32 (of_z w32 (z +ℤ pos 1))) ≡ suc (passed (suc a) z)

module _ (a : ℕ) (z : ℤ) (few : a ≤ 100) (number : z ≡ turn (suc a) (passed (suc a) z)) (within : passed (suc a) z ≤ suc (2 * suc a)) where
  -- in a turn
  pub in_turn : le_z z (pos (suc a)) ≡ true → Turn a z
  in_turn test = record { number = number; over = over; size = size; fits = fits; again = rw back (rw next more); next = rw back next }
    where
      over : passed (suc a) z ≤ 2 * suc a
      over =
          by_sign a (passed (suc a) z) (λ y. le_z y (pos (suc a)) ≡ true → passed (suc a) z ≤ 2 * suc a)
          (λ h t. omega arith)
          (λ h t. omega (arith, leb-true (passed (suc a) z - suc a) (suc a) t))
          (subst (λ (y : ℤ). le_z y (pos (suc a)) ≡ true) number test)

      size : mag z ≤ suc a
      size = subst (λ (y : ℤ). mag y ≤ suc a) (sym number) (mag_turn a (passed (suc a) z) over)

      fits : SFits w32 (z +ℤ pos 1)
      fits = small _ (omega (arith, size, mag_sum z (pos 1)))

      back : to_z w32 (of_z w32 (z +ℤ pos 1)) ≡ z +ℤ pos 1
      back = to_z-of_z w32 (z +ℤ pos 1) fits

      more : z +ℤ pos 1 ≡ turn (suc a) (suc (passed (suc a) z))
      more = ap (λ (y : ℤ). y +ℤ pos 1) number ∙ turn_more (suc a) (passed (suc a) z)

      next : passed (suc a) (z +ℤ pos 1) ≡ suc (passed (suc a) z)
      next = ap (passed (suc a)) more ∙ passed_turn (suc a) (suc (passed (suc a) z))

-- a position moved back by a turn's number
pub back_turn : (i a j : ℕ) → suc a ≤ i → j ≤ 2 * suc a → (T (non_neg (pos i +ℤ neg_ℤ (turn (suc a) j)))) × (moved i (neg_ℤ (turn (suc a) j)) ≡ i + suc a - j)
back_turn i a j h u =
    by_sign a j (λ z. (T (non_neg (pos i +ℤ neg_ℤ z))) × (moved i (neg_ℤ z) ≡ i + suc a - j))
    (λ v. (tt, omega arith))
    (λ v. go (j - suc a) v refl)
  where
    go : (k : ℕ) → suc a ≤ j → j - suc a ≡ k → (T (non_neg (pos i +ℤ neg_ℤ (pos k)))) × (moved i (neg_ℤ (pos k)) ≡ i + suc a - j)
    go zero v e = (tt, omega arith)
    go (suc k) v e = (rw (le-ltb i (suc k) (omega arith)) tt, omega arith)
