-- `sums_of` writes sixteen sums a turn.
use Rattle.resampling.specs.Rows.{Phases}
use Rattle.resampling.proofs.sums_of.Given as goal

abbrev pub invariant-loop-n : goal.invariant-loop-n
invariant-loop-n l = Phases l.rows l.filter l.step.p l.n l.sums
