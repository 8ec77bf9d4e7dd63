-- `scale_row`: the row so far, scaled, stands in front of the entries not yet replaced.
use lib.ListN.{length, take, drop}
use mathlib.Core.List.{map}
use mathlib.Core.Path.{◌≡◌}
use Rattle.floats.specs.Single.{◌⊗◌}
use Rattle.coefficients.proofs.scale_row.Given as goal

abbrev pub invariant-loop-k : goal.invariant-loop-k
invariant-loop-k l = (length l.c ≡ length l.initial.c) × (take l.k l.c ≡ map (λ e. l.gain ⊗ e) (take l.k l.row)) × (drop l.k l.c ≡ drop l.k l.initial.c)
