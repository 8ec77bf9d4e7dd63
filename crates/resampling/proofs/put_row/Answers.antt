-- `put_row` writes one sample a turn.
use Rattle.std.proofs.Common.{refl, add-one}
use Rattle.slices.specs.Written.{written}
use Rattle.resampling.proofs.put_row.Goals as goal

pub loop-b-init : goal.loop-b-init
unfolding written
loop-b-init c = refl

pub loop-b-preserved : goal.loop-b-preserved
unfolding written
loop-b-preserved c = rw (add-one, ← c.loop-b.invariant)
