-- `take_in` writes one sample a turn, as many as fit.
use mathlib.Core.Path.{◌≡◌}
use Rattle.slices.specs.Written.{written}
use Rattle.signals.specs.Straight.{sampled}
use Rattle.signals.proofs.straight.take_in.Given as goal

abbrev pub invariant-loop-i : goal.invariant-loop-i
invariant-loop-i l = l.out ≡ written l.initial.out 60 (sampled l.fn.frame) l.i
