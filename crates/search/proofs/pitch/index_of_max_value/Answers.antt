-- `index_of_max_value` looks at one entry a turn.
use native.Mathlib.Omega.{arith}
use Prim.Native.Nat.{ℕ, ◌+◌}
use mathlib.Core.Path.{◌≡◌, refl}
use mathlib.Core.Bool.{cond}
use mathlib.Core.List.{List}
use native.Mathlib.Numerals.{add-one}
use lib.Ieee.{Float, lt}
use Rattle.floats.specs.Single.{at}
use Rattle.std.proofs.Common.{[], ◌∷◌, Bor}
use Rattle.std.specs.Prelude.{Option, None, option_copied, slice_get}
use Rattle.search.specs.Pitch.{searched, index_of_max}
use borrow.Author.Rules.{rules}
use Rattle.search.proofs.pitch.index_of_max_value.Goals as goal

-- a list without a first entry
none : (s : List Float) (r : Option (Bor Float)) → r ≡ None → option_copied r ≡ slice_get s 0 → 0 ≡ index_of_max s
unfolding searched
none [] r e f = refl
none (x ∷ s) r e f = absurd (cc)

pub returns-in_default : goal.returns-in_default
returns-in_default c = none c.args.slice.now c.first.result c.in_default.is c.first.ensures.value

pub loop-n-init : goal.loop-n-init
unfolding searched
loop-n-init c = search rules

-- where the search stands after one entry more, by the definition's test
moved : (s : List Float) (n : ℕ) → searched s (n + 1) ≡ cond (lt (at s (searched s n)) (at s n)) n (searched s n)
unfolding searched
moved s n = rw add-one refl

pub loop-n-preserved : goal.loop-n-preserved
loop-n-preserved c =
    let m = moved c.args.slice.now c.loop-n.n in
    grind arith
