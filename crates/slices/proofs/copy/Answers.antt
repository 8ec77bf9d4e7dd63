-- `copy` replaces one entry a turn.
use mathlib.Core.Path.{◌∙◌, ap}
use Prim.Native.Nat.{◌+◌}
use native.Mathlib.Omega.{arith}
use lib.ListN.{length-set, set}
use Rattle.slices.proofs.Pasted.{pasted, none_pasted, entry_pasted, all_pasted}
use borrow.Author.Rules.{rules}
use Rattle.slices.proofs.copy.Goals as goal

pub loop-i-init : goal.loop-i-init
loop-i-init g c = (search rules, search rules, search rules, none_pasted c.args.into.now c.args.at c.args.block.now)

pub loop-i-preserved : goal.loop-i-preserved
loop-i-preserved g c =
    let a = c.args in
    let l = c.loop-i in (
      search rules,
      search rules,
      simp length-set (omega arith),
      rw l.invariant.3
          (ap (set (pasted a.into.now a.at a.block.now l.i) (a.at + l.i)) c.index-block-i.is ∙
          entry_pasted a.into.now a.block.now a.at l.i c.index-block-i.result (search rules) (search rules)),
    )

pub returns : goal.returns
returns g c = c.loop-i.invariant.3 ∙ all_pasted c.args.into.now c.args.at c.args.block.now c.loop-i.i (omega arith)
