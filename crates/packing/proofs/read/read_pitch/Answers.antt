-- `read_pitch` refuses no bytes, and a first byte alone that says present.
use Prim.Native.Nat.{ℕ, ◌≤◌, ◌<◌}
use mathlib.Core.Path.{◌≡◌, sym, ◌∙◌}
use mathlib.Core.List.{List, [], ◌∷◌}
use native.Mathlib.Omega.{arith}
use borrow.Author.Rules.{rules}
use lib.ListN.{length, get_or}
use Rattle.rates.specs.declared.answer.Refusal.TheVariants.{TooFewBytes}
use Rattle.packing.specs.Readings.{reading, refused_reading}
use Rattle.packing.proofs.ByBytes.{none, early}
use Rattle.packing.proofs.read.read_pitch.Goals as goal

empty : (bytes : List ℕ) → length bytes ≤ 0 → reading bytes ≡ refused_reading TooFewBytes
empty [] h = none
empty (a ∷ bytes) h = absurd (omega (arith, h))

one : (bytes : List ℕ) (first : ℕ) → length bytes ≤ 1 → 0 < length bytes → first ≡ get_or bytes 0 0 → 128 ≤ first → first < 256 →
    reading bytes ≡ refused_reading TooFewBytes
one [] first h l e p q = absurd (omega (arith, l))
one (a ∷ []) first h l e p q = early a (omega arith) (omega arith)
one (a ∷ b ∷ bytes) first h l e p q = absurd (omega (arith, h))

pub returns-in_default : goal.returns-in_default
returns-in_default c = c.refused.ensures ∙ sym (empty c.args.bytes.now (omega (arith, c.in_default.ensures)))

pub returns-in_default-get : goal.returns-in_default-get
returns-in_default-get c =
    let item = c.in-Some.ensures.item in
    c.refused-in_default-get.ensures
    ∙ sym (one c.args.bytes.now c.in-Some.first (omega (arith, c.in_default-get.ensures)) item.3.0 (search (rules, item.3.1 0, c.in-Some.first-is)) (search rules) (search rules))
