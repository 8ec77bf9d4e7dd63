-- `spread` writes a row a turn.
use Rattle.std.proofs.Common.{◌+◌, ◌-◌, ◌*◌, ◌/◌, ◌≤◌, ◌<◌, arith}
use native.Mathlib.Nat.{div-le_of_le-mul, div-lt_iff_lt-mul}
use Rattle.floats.specs.Single.{at}
use Rattle.resampling.proofs.Rows.{row_more}
use Rattle.resampling.proofs.spread.Goals as goal

pub loop-s-init : goal.loop-s-init
loop-s-init c = (c.told-rows, λ t b h. absurd (omega arith))

pub loop-s-preserved : goal.loop-s-preserved
loop-s-preserved c =
    let bounds : (240 / c.args.step.p ≤ 60) × (105 / c.args.step.p < 27) =
    (div-le_of_le-mul c.args.step.p (omega arith), (div-lt_iff_lt-mul {k = c.args.step.p} (omega arith)).1 (omega arith)) in
    let l = c.loop-s in (
      c.put_row.array_long,
      row_more (λ t b. at c.args.x.now (60 - 240 / c.args.step.p + t + 120 / c.args.step.p * b)) l.rows _ l.s (omega (arith, bounds)) l.invariant.1 c.put_row.ensures,
    )

pub returns : goal.returns
returns c = record { long = c.loop-s.invariant.0; entries = λ s b h k. c.loop-s.invariant.1 s b (omega arith) k }
