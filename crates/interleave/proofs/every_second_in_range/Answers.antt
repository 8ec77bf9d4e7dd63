-- `every_second_in_range` holds the test of the samples so far beside that of the rest.
use Rattle.std.proofs.Common.{sym, ◌∙◌, arith}
use Rattle.interleave.proofs.Ranges.{one_more, none_left}
use Rattle.interleave.proofs.every_second_in_range.Goals as goal

pub loop-i-preserved : goal.loop-i-preserved
loop-i-preserved c =
    let loop = c.loop-i in
    loop.invariant ∙ one_more loop.all c.args.samples.now loop.i c.loop-i-test.true ∙ rw c.in_range-all.ensures

pub returns : goal.returns
returns c =
    let loop = c.loop-i in
    sym (loop.invariant ∙ none_left loop.all c.args.samples.now loop.i c.loop-i-test.false)

pub returns-2 : goal.returns-2
returns-2 c =
    let loop = c.loop-i in
    let samples = c.args.samples.now in
    rw c.in_range-all.ensures
    (sym (loop.invariant ∙ one_more loop.all samples loop.i c.loop-i-test.true ∙ none_left _ samples _ (omega arith)))
