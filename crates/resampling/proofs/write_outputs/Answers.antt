-- `write_outputs` writes one output a turn, each where its sum was put.
use Rattle.std.proofs.Common.{refl, add-one, arith}
use Rattle.slices.specs.Written.{written}
use Rattle.resampling.specs.Resample.{resampled}
use Rattle.resampling.proofs.Rows.{phase_at}
use Rattle.resampling.proofs.write_outputs.Goals as goal

pub loop-n-init : goal.loop-n-init
unfolding written
loop-n-init c = refl

pub loop-n-preserved : goal.loop-n-preserved
unfolding written resampled
loop-n-preserved c =
    let a = c.args in
    rw (
      add-one,
      written,
      ← c.loop-n.invariant,
      phase_at a.x.now a.filter.now _ a.step.p a.step.least a.step.divides c.spread.ensures c.sums_of-sums.result c.sums_of-sums.ensures c.loop-n.n (omega arith),
      c.scale_of-scale.ensures,
    )
