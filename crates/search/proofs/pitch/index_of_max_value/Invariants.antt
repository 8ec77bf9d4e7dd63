-- `index_of_max_value` looks at one entry a turn.
use mathlib.Core.Path.{◌≡◌}
use Rattle.floats.specs.Single.{at}
use Rattle.search.specs.Pitch.{searched}
use Rattle.search.proofs.pitch.index_of_max_value.Given as goal

abbrev pub invariant-loop-n : goal.invariant-loop-n
invariant-loop-n l = (l.index ≡ searched l.slice l.n) × (l.max ≡ at l.slice l.index)
