-- `read_every` counts at most as many runs as it has read.
use Rattle.std.proofs.Common.{◌≤◌}
use Rattle.test_packing.proofs.read_every.Given as goal

abbrev pub invariant-loop-i : goal.invariant-loop-i
invariant-loop-i l = l.refused ≤ l.i
