-- `fraction` looks at one fraction a turn.
use Prim.Native.Nat.{◌≤◌}
use mathlib.Core.Path.{◌≡◌}
use Rattle.found.specs.LagParameter.{fraction_search}
use Rattle.found.specs.Taps.{turn}
use Rattle.found.proofs.Turns.{passed}
use Rattle.found.proofs.lag_parameter.fraction.Given as goal

abbrev pub invariant-loop-d : goal.invariant-loop-d
invariant-loop-d l =
    (l.d ≡ turn 3 (passed 3 l.d))
    × (passed 3 l.d ≤ 7)
    × (l.pitch_fr ≡ (fraction_search l.r_12p8 l.entry l.pitch_int l.interpolation (passed 3 l.d)).place)
    × (l.interp_d_max ≡ (fraction_search l.r_12p8 l.entry l.pitch_int l.interpolation (passed 3 l.d)).value)
