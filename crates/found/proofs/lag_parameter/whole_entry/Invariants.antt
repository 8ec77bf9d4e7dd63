-- `whole_entry` looks at one correlation a turn.
use mathlib.Core.Path.{◌≡◌}
use Rattle.found.specs.LagParameter.{whole_search}
use Rattle.found.proofs.lag_parameter.whole_entry.Given as goal

abbrev pub invariant-loop-n : goal.invariant-loop-n
invariant-loop-n l = (l.entry ≡ (whole_search l.r_12p8 l.n).place) × (l.max_correlation_val ≡ (whole_search l.r_12p8 l.n).value)
