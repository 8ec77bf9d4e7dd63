-- `rounding`: 4 less what is dropped, which is a small integer.
use Prim.Native.Nat.{ℕ, suc, ◌-◌, ◌≤◌}
use mathlib.Core.Path.{◌≡◌, sym, ap, ◌∙◌}
use mathlib.Core.Bool.{Bool, true, false, cond}
use native.Mathlib.Omega.{arith}
use lib.Dec.{ltb}
use lib.IntN.{pos, negsuc, sub_ℕ, ◌-ℤ◌}
use mir.Syntax.{w32}
use mir.Val.{SFits, to_z}
use mir.ValLaws.{to_z_pos, to_z-of_z}
use Rattle.lag.proofs.Rounding.{difference, rounding_drops}
use borrow.Author.Rules.{rules}
use Rattle.lag.proofs.rescale.rounding.Goals as goal

-- the difference of two bytes, and that it fits
of_bytes : (a b : ℕ) → a ≤ 255 → b ≤ 255 → to_z w32 a -ℤ to_z w32 b ≡ sub_ℕ a b
of_bytes a b g h = rw (to_z_pos w32 a (omega arith), to_z_pos w32 b (omega arith)) (difference a b)

difference_fits : (a b : ℕ) → a ≤ 255 → b ≤ 255 → SFits w32 (to_z w32 a -ℤ to_z w32 b)
difference_fits a b g h = rw (of_bytes a b g h) (go (ltb a b))
  where
    go : (t : Bool) → SFits w32 (cond t (negsuc (b - suc a)) (pos (a - b)))
    go true = record { sfits = omega arith }
    go false = record { sfits = omega arith }

pub overflow_cast-result : goal.overflow_cast-result
overflow_cast-result c =
    let byte : c.dropped.result ≤ 255 =
    omega (arith, c.dropped.ensures) in
    record { sfits = omega (arith, byte) }

pub overflow_sub-result : goal.overflow_sub-result
overflow_sub-result c =
    let byte : c.dropped.result ≤ 255 =
    omega (arith, c.dropped.ensures) in
    search (rules, difference_fits, byte)

pub returns : goal.returns
returns c =
    let byte : c.dropped.result ≤ 255 =
    omega (arith, c.dropped.ensures) in
    to_z-of_z w32 _ (difference_fits 4 c.dropped.result (omega arith) byte) ∙ of_bytes 4 c.dropped.result (omega arith) byte ∙ ap (sub_ℕ 4) c.dropped.ensures ∙
    sym (rounding_drops c.args.r c.args.quarters)
