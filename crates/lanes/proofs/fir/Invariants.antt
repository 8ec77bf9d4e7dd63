-- `fir` takes two steps a turn.
use Rattle.std.proofs.Common.{◌≡◌, ◌-◌, ◌*◌}
use Rattle.floats.specs.Single.{at}
use Rattle.lanes.specs.Lanes.{combined, steps}
use Rattle.lanes.proofs.fir.Given as goal

abbrev pub invariant-loop-j : goal.invariant-loop-j
invariant-loop-j g l = l.s ≡ steps (λ t k. combined g.S.Sense.of t (at l.c k) l.x (l.i - k)) l.initial.s (2 * l.j)
