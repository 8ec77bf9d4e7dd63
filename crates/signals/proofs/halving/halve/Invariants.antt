-- `halve` writes one sample a turn.
use mathlib.Core.Path.{◌≡◌}
use Rattle.slices.specs.Written.{written}
use Rattle.signals.specs.Halving.{halved}
use Rattle.signals.proofs.halving.halve.Given as goal

abbrev pub invariant-loop-m : goal.invariant-loop-m
invariant-loop-m l = l.out ≡ written l.initial.out 114 (halved l.x l.start) l.m
