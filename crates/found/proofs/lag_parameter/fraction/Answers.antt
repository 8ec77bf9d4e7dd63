-- `fraction` looks at one fraction a turn.
use Prim.Native.Nat.{ℕ, suc}
use mathlib.Core.Path.{◌≡◌, refl}
use native.Mathlib.Omega.{arith}
use borrow.Author.Rules.{rules}
use mathlib.Core.Bool.{cond}
use mathlib.Core.List.{List}
use lib.IntN.{ℤ}
use lib.Ieee.{Float, of_bits}
use Rattle.found.specs.Taps.{turn}
use mir.Syntax.{w32}
use mir.Val.{to_z}
use Rattle.found.specs.LagParameter.{fraction_search, looked_at, better, interpolated}
use Rattle.found.proofs.Turns.{passed, in_turn}
use Rattle.found.proofs.LagParameters.{fraction_range}
use Rattle.found.proofs.lag_parameter.fraction.Goals as goal

pub loop-d-init : goal.loop-d-init
unfolding fraction_search of_bits
loop-d-init c = search rules

-- the best after one turn more, by the definition's test
moved : (r : List Float) (e whole : ℕ) (h : List Float) (j : ℕ) (z : ℤ) → z ≡ turn 3 j → fraction_search r e whole h (suc j) ≡ cond (looked_at whole z) (better (fraction_search r e whole h j) z (interpolated r e z h 9)) (fraction_search r e whole h j)
unfolding fraction_search
moved r e whole h j z n = rw n refl

pub loop-d-preserved : goal.loop-d-preserved
loop-d-preserved c =
    let x = c.loop-d in
    let a = c.args in
    let t = in_turn 2 (to_z w32 x.d-bits) (omega arith) x.invariant.0 x.invariant.1 c.loop-d-test.true in
    let m = moved a.r_12p8.now a.entry a.pitch_int a.interpolation.now (passed 3 (to_z w32 x.d-bits)) (to_z w32 x.d-bits) t.number in
    (t.again, omega (arith, t.next, t.over), rw t.next (grind arith), rw t.next (grind arith))

pub returns-clause-range : goal.returns-clause-range
returns-clause-range c =
    let x = c.loop-d in
    rw x.invariant.2 (fraction_range _ _ _ _ (passed 3 (to_z w32 x.d-bits)) x.invariant.1)
