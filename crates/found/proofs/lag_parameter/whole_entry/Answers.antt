-- `whole_entry` looks at one correlation a turn.
use Prim.Native.Nat.{ℕ, ◌+◌, ◌-◌, ◌<◌, ◌≤◌}
use mathlib.Core.Path.{◌≡◌, refl}
use mathlib.Core.List.{List}
use native.Mathlib.Numerals.{add-one}
use native.Mathlib.Omega.{arith}
use lib.ListN.{length, take, drop, length-take}
use lib.Seq.{get_or-take, get_or-drop}
use lib.Ieee.{Float, of_bits, nan}
use Rattle.floats.specs.Single.{at}
use Rattle.found.specs.LagParameter.{whole_search, better}
use borrow.Author.Rules.{rules}
use Rattle.found.proofs.LagParameters.{whole_range}
use Rattle.found.proofs.lag_parameter.whole_entry.Goals as goal

pub loop-n-init : goal.loop-n-init
unfolding whole_search of_bits
loop-n-init c = search rules

-- the best after one entry more, by the definition's test
moved : (r : List Float) (n : ℕ) → whole_search r (n + 1) ≡ better (whole_search r n) (n + 4) (at r (n + 4))
unfolding whole_search
moved r n = rw add-one refl

-- an entry of the part that is looked at
inner : (r : List Float) (m n : ℕ) → n < length (take m (drop 4 r)) → at (take m (drop 4 r)) n ≡ at r (n + 4)
inner r m n h =
    let k : n < m = omega (arith, length-take m (drop 4 r)) in
    let e : 4 + n ≡ n + 4 = omega arith in
    rw (get_or-take m (drop 4 r) n nan k, get_or-drop 4 r n nan, e)

pub loop-n-preserved : goal.loop-n-preserved
loop-n-preserved c =
    let m = moved c.args.r_12p8.now c.loop-n.n in
    let v = inner c.args.r_12p8.now _ c.loop-n.n c.loop-n-test.true in
    grind arith

pub returns-clause-range : goal.returns-clause-range
returns-clause-range c =
    let r = c.args.r_12p8.now in
    let part : length (take (length r - 4 - 4) (drop 4 r)) ≤ length r - 8 = omega (arith, length-take (length r - 4 - 4) (drop 4 r)) in
    omega (arith, part, whole_range r c.loop-n.n, c.loop-n.invariant.0)
