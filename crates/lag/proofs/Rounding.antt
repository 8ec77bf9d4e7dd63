-- How a lag is rounded to a rate.
use Rattle.lag.specs.declared.rescale.RoundedLag.{RoundedLag}
use Rattle.lag.specs.declared.rescale.Lag.{Lag}
use Rattle.std.proofs.Common.{Option, Some, None}
use Prim.Native.Nat.{ℕ, zero, suc, ◌+◌, ◌-◌, ◌*◌, ◌/◌, ◌%◌, ◌≤◌}
use mathlib.Core.Path.{◌≡◌, refl, sym, ap, ◌∙◌}
use mathlib.Core.Bool.{Bool, true, false, cond}
use mathlib.Core.Logic.{◌↔◌}
use native.Mathlib.Nat.{mul-le-mul}
use native.Mathlib.Omega.{arith}
use borrow.Author.Tests.{ltb-true, ltb-false, le-ltb}
use lib.Dec.{ltb, le→leb}
use lib.IntN.{ℤ, pos, negsuc, nat_abs, sub_ℕ, ◌-ℤ◌, pos-ne-negsuc}
use lib.Signed.{◌≤ℤ◌, le_z_yes}
use Rattle.rates.specs.declared.table.Rate.{Rate}
use Rattle.lag.specs.Lag.{unscaled_of, rescaled, scaled_to, found_lag, rounding, rounded_to, looked_up_lag}

-- a difference by comparing the two
pub difference : (a b : ℕ) → pos a -ℤ pos b ≡ sub_ℕ a b
difference a zero = rw (le-ltb a 0 (omega arith)) (ap pos (omega arith))
difference a (suc b) = refl

-- 4 is added to 5·R·q, and the remainder by 8 is dropped
pub rounding_drops : (r q : ℕ) → rounding r q ≡ sub_ℕ 4 ((5 * r * q + 4) % 8)
unfolding rounding rescaled
rounding_drops r q = difference eight (5 * r * q) ∙ go (ltb eight (5 * r * q)) (ltb 4 rest) refl refl
  where
    eight : ℕ
    eight = 8 * ((5 * r * q + 4) / 8)

    rest : ℕ
    rest = (5 * r * q + 4) % 8

    go : (a b : Bool) → ltb eight (5 * r * q) ≡ a → ltb 4 rest ≡ b →
        cond a (negsuc (5 * r * q - suc eight)) (pos (eight - 5 * r * q)) ≡ cond b (negsuc (rest - 5)) (pos (4 - rest))
    go true true p u = ap negsuc (omega (arith, ltb-true eight (5 * r * q) p))
    go true false p u = absurd (omega (arith, ltb-true eight (5 * r * q) p, ltb-false 4 rest u))
    go false true p u = absurd (omega (arith, ltb-false eight (5 * r * q) p, ltb-true 4 rest u))
    go false false p u = ap pos (omega (arith, ltb-false 4 rest u))

-- THE ROUNDING, at every rate and index: R and q are any numbers here. It lies from -3 to 4, and is 4 exactly at a tie, where 5·R·q lies halfway
-- between two multiples of 8.
pub rounding_law : (r q : ℕ) → (negsuc 2 ≤ℤ rounding r q) × (rounding r q ≤ℤ pos 4) × ((rounding r q ≡ pos 4) ↔ (5 * r * q % 8 ≡ 4))
rounding_law r q = rw (rounding_drops r q) (go (ltb 4 rest) refl)
  where
    rest : ℕ
    rest = (5 * r * q + 4) % 8

    less : Bool → ℤ
    less b = cond b (negsuc (rest - 5)) (pos (4 - rest))

    go : (b : Bool) → ltb 4 rest ≡ b → (negsuc 2 ≤ℤ less b) × (less b ≤ℤ pos 4) × ((less b ≡ pos 4) ↔ (5 * r * q % 8 ≡ 4))
    go true p = (
      le_z_yes (le→leb (rest - 5) 2 (omega arith)),
      le_z_yes tt,
      ((λ e. absurd (pos-ne-negsuc 4 (rest - 5) (sym e))), λ tie. absurd (omega (arith, ltb-true 4 rest p))),
    )
    go false p = (
      le_z_yes tt,
      le_z_yes (le→leb (4 - rest) 4 (omega arith)),
      ((λ e. omega (arith, ltb-false 4 rest p, ap nat_abs e)), λ tie. ap pos (omega arith)),
    )

-- The lag of the lookup, without its rounding, is the lag that a decoder keeps.
abbrev pub lag_alone : Option RoundedLag → Option Lag
lag_alone (Some l) = Some l.lag
lag_alone None = None

pub same_lag_lem : (fs : Rate) (index : ℕ) → lag_alone (looked_up_lag fs index) ≡ found_lag fs index
same_lag_lem fs index = go (unscaled_of index)
  where
    go : (u : Option ℕ) → lag_alone (rounded_to fs u) ≡ scaled_to fs u
    go (Some q) = refl
    go None = refl

-- a product of 5, 32 and 16 bits is far below 2 ^ 64
pub product_small : (r q : ℕ) → r ≤ 4294967295 → q ≤ 65535 → 5 * r * q ≤ 5 * 4294967295 * 65535
product_small r q a b = mul-le-mul {n₂ = 5 * 4294967295} {m₂ = 65535} (omega arith) b
