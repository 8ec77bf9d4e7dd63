-- `interpolate` adds one tap a turn.
use Prim.Native.Nat.{◌≤◌}
use mathlib.Core.Path.{◌≡◌}
use Rattle.found.specs.LagParameter.{interpolated as interpolated_at}
use Rattle.found.specs.Taps.{turn}
use Rattle.found.proofs.Turns.{passed}
use Rattle.found.proofs.lag_parameter.interpolate.Given as goal

abbrev pub invariant-loop-m : goal.invariant-loop-m
invariant-loop-m l = (l.m ≡ turn 4 (passed 4 l.m)) × (passed 4 l.m ≤ 9) × (l.interpolated ≡ interpolated_at l.r_12p8 l.entry l.d l.interpolation (passed 4 l.m))
