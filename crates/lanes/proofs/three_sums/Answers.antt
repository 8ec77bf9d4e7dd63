-- `three_sums` takes two terms a turn, and the last by itself where their number is odd.
use Rattle.std.proofs.Common.{◌≡◌, ◌∙◌, ◌*◌, ◌/◌, add-one, length, arith}
use lib.Ieee.{of_bits}
use Rattle.lanes.specs.Lanes.{steps}
use Rattle.lanes.proofs.InPairs.{odd, even, twice}
use Rattle.lanes.proofs.ThreeSums.{one_more, two_more}
use Rattle.lanes.proofs.three_sums.Goals as goal

pub loop-m-init : goal.loop-m-init
unfolding steps of_bits
loop-m-init c = let z = c.starting_at-zero.ensures in record { first = z; second = z; third = z }

pub loop-m-preserved : goal.loop-m-preserved
loop-m-preserved c =
    let m = c.loop-m.m in
    rw (twice m) (two_more _ _ _ _ _ (2 * m) _ _ _ c.loop-m.invariant c.step-t.ensures c.step-s.ensures)

pub returns-then-n-a : goal.returns-then-n-a
returns-then-n-a c =
    let turns : c.loop-m.m ≡ length c.args.a.now / 2 = omega arith in
    let n = length c.args.a.now in
    let e = odd n c.if-n-a.true ∙ add-one (2 * (n / 2)) in
    rw e (one_more _ _ _ _ _ (2 * (n / 2)) _ _ (rw turns at c.loop-m.invariant) c.step.ensures)

pub returns : goal.returns
returns c =
    let turns : c.loop-m.m ≡ length c.args.a.now / 2 = omega arith in
    let n = length c.args.a.now in
    rw (turns, even n c.if-n-a.false) at c.loop-m.invariant
