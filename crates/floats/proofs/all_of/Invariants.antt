-- `all_of` goes on with the tests made so far.
use Rattle.std.proofs.Common.{◌≡◌, Bool, Float, ◌&&◌, drop}
use Rattle.floats.specs.Single.{each}
use Rattle.floats.proofs.all_of.Given as goal

abbrev pub invariant-loop-x : goal.invariant-loop-x
invariant-loop-x g l =
    (passes : Float → Bool) → ((x : Float) (r : Bool) → goal.F-post g l.test x r → r ≡ passes x) → (l.all && each passes (drop l.x-index l.s)) ≡ each passes l.s
