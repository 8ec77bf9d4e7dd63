-- `fir` takes two steps a turn, and the last by itself where their number is odd.
use Rattle.std.proofs.Common.{◌≡◌, refl, sym, ◌∙◌, ◌/◌, length, arith}
use Rattle.lanes.specs.Lanes.{steps, fir}
use Rattle.lanes.proofs.InPairs.{two_more, all_taken, last_taken}
use Rattle.lanes.proofs.fir.Goals as goal

pub returns-then-not-fir_inside : goal.returns-then-not-fir_inside
unfolding fir
returns-then-not-fir_inside g c = rw (sym c.fir_inside.ensures ∙ c.if-not-fir_inside.true)

pub loop-j-init : goal.loop-j-init
unfolding steps
loop-j-init g c = refl

pub loop-j-preserved : goal.loop-j-preserved
loop-j-preserved g c =
    let i = c.loop-j in two_more _ _ i.j _ _ _ i.invariant c.scaled-t.ensures c.scaled-s.ensures

pub returns-then-last-c : goal.returns-then-last-c
unfolding fir
returns-then-last-c g c =
    let turns : c.loop-j.j ≡ length c.args.c.now / 2 = omega arith in
    last_taken _ _ _ _ _ _ _ (sym c.fir_inside.ensures ∙ c.if-not-fir_inside.false) turns c.loop-j.invariant c.if-last-c.true c.scaled.ensures

pub returns : goal.returns
unfolding fir
returns g c =
    let turns : c.loop-j.j ≡ length c.args.c.now / 2 = omega arith in
    all_taken _ _ _ _ _ _ (sym c.fir_inside.ensures ∙ c.if-not-fir_inside.false) turns c.loop-j.invariant c.if-last-c.false
