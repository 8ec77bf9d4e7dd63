-- `high_pass` filters one sample a turn: the samples ahead are still those that came in.
use mathlib.Core.Path.{◌≡◌}
use lib.Ieee.{Float}
use Rattle.lanes.specs.Sums.{window}
use Rattle.slices.specs.Written.{written}
use Rattle.signals.specs.HighPass.{memories, passed}
use Rattle.signals.specs.declared.highpass.HighPass.{HighPass}
use Rattle.signals.proofs.highpass.high_pass.Given as goal

abbrev pub both : Float → Float → HighPass
both a b = record { h50_minus1 = a; h50_minus2 = b }

abbrev pub invariant-loop-n : goal.invariant-loop-n
invariant-loop-n l =
    (both l.h50_minus1 l.h50_minus2 ≡ memories (both l.initial.h50_minus1 l.initial.h50_minus2) (window l.initial.x 276) l.n)
    × (l.x ≡ written l.initial.x 276 (passed (both l.initial.h50_minus1 l.initial.h50_minus2) (window l.initial.x 276)) l.n)
