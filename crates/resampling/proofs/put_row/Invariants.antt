-- `put_row` writes one sample a turn.
use Rattle.std.proofs.Common.{◌≡◌, ◌+◌, ◌*◌}
use Rattle.floats.specs.Single.{at}
use Rattle.slices.specs.Written.{written}
use Rattle.resampling.proofs.put_row.Given as goal

abbrev pub invariant-loop-b : goal.invariant-loop-b
invariant-loop-b l = l.rows ≡ written l.initial.rows l.to (λ b. at l.x (l.from + l.step * b)) l.b
