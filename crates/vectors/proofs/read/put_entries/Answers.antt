-- `put_entries`: each turn stores the entry of its place.
use Rattle.std.proofs.Common.{arith, refl, length, ◌<◌}
use Rattle.vectors.specs.Parts.{filled}
use Rattle.vectors.proofs.Filled.{filled_more, filled_all}
use Rattle.vectors.proofs.read.put_entries.Goals as goal

pub loop-k-init : goal.loop-k-init
unfolding filled
loop-k-init g c = refl

pub loop-k-preserved : goal.loop-k-preserved
loop-k-preserved g c =
    let at = c.loop-k in
    let args = c.args in
    let inside : at.k < length args.values.now = omega arith in
    rw at.invariant (filled_more (g.T.Entry.entry_at args.bytes.now) args.values.now at.k c.at.result c.at.result inside c.at.ensures)

pub returns : goal.returns
returns g c = filled_all (g.T.Entry.entry_at c.args.bytes.now) c.args.values.now _ c.loop-k.k (omega arith) c.loop-k.invariant
