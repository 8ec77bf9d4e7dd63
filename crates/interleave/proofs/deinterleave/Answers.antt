-- `deinterleave` copies a sample of each ear a turn.
use Rattle.std.proofs.Common.{◌∙◌, arith}
use Rattle.slices.proofs.Pasted.{none_pasted, one_pasted, all_pasted}
use Rattle.interleave.specs.Turns.{lefts, rights}
use Rattle.interleave.proofs.Buffers.{halves, at_second, at_right}
use Rattle.interleave.proofs.deinterleave.Goals as goal

pub loop-i-init : goal.loop-i-init
loop-i-init c = (none_pasted c.args.left.now c.args.left_at (lefts c.args.samples.now), none_pasted c.args.right.now c.args.right_at (rights c.args.samples.now))

pub loop-i-preserved : goal.loop-i-preserved
loop-i-preserved c =
    let a = c.args in
    let i = c.loop-i in
    let half = halves a.samples.now a.nf c.requires.0 in (
      rw i.invariant.0 (rw (at_second i.i a.samples.now) at (one_pasted a.left.now (lefts a.samples.now) a.left_at i.i (omega arith) (omega arith))),
      rw i.invariant.1 (rw (at_right i.i a.samples.now) at (one_pasted a.right.now (rights a.samples.now) a.right_at i.i (omega arith) (omega arith))),
    )

pub returns : goal.returns
returns c =
    let a = c.args in
    let i = c.loop-i in
    let half = halves a.samples.now a.nf c.requires.0 in (
      i.invariant.0 ∙ all_pasted a.left.now a.left_at (lefts a.samples.now) i.i (omega arith),
      i.invariant.1 ∙ all_pasted a.right.now a.right_at (rights a.samples.now) i.i (omega arith),
    )
