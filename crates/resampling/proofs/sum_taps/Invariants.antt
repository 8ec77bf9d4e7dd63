-- `sum_taps` adds one tap a turn to sixteen sums, where it is used.
use Rattle.std.proofs.Common.{◌≡◌}
use Rattle.resampling.specs.Rows.{tap_lanes}
use Rattle.resampling.proofs.sum_taps.Given as goal

abbrev pub invariant-loop-j : goal.invariant-loop-j
invariant-loop-j l = (l.low ≡ tap_lanes l.rows l.filter l.p l.n 0 l.j) × (l.high ≡ tap_lanes l.rows l.filter l.p l.n 8 l.j)
