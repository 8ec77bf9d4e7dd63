-- `write_outputs` writes one output a turn, each where its sum was put.
use Rattle.std.proofs.Common.{◌≡◌}
use Rattle.slices.specs.Written.{written}
use Rattle.resampling.specs.Resample.{resampled}
use Rattle.resampling.proofs.write_outputs.Given as goal

abbrev pub invariant-loop-n : goal.invariant-loop-n
invariant-loop-n l = l.out ≡ written l.initial.out 276 (resampled l.x l.filter l.fn.step.p) l.n
