-- `all_of` tests entry by entry.
use Rattle.std.proofs.Common.{◌≡◌, ◌∙◌, sym, refl, arith, length}
use Rattle.floats.proofs.Tests.{one_more, none_left}
use Rattle.floats.proofs.all_of.Goals as goal

pub loop-x-init : goal.loop-x-init
loop-x-init g c passes h = refl

pub loop-x-preserved : goal.loop-x-preserved
loop-x-preserved g c passes h =
    let i = c.loop-x in
    rw (h _ _ c.test-all.ensures) (sym (one_more passes i.all c.args.s.now i.x-index c.loop-x-test.true) ∙ i.invariant passes h)

pub returns : goal.returns
returns g c passes h =
    let all : c.loop-x.x-index ≡ length c.args.s.now = omega arith in
    sym (none_left passes c.loop-x.all c.args.s.now) ∙ (rw all at (c.loop-x.invariant passes h))
