-- `halve` writes one sample a turn.
use mathlib.Core.Path.{refl}
use native.Mathlib.Numerals.{add-one}
use Rattle.slices.specs.Written.{written}
use Rattle.signals.proofs.halving.halve.Goals as goal

pub loop-m-init : goal.loop-m-init
unfolding written
loop-m-init c = refl

pub loop-m-preserved : goal.loop-m-preserved
unfolding written
loop-m-preserved c = rw (add-one, written, ← c.loop-m.invariant, c.five_taps.ensures)
