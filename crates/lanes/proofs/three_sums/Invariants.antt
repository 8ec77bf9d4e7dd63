-- `three_sums` takes two terms a turn, and the last by itself where their number is odd.
use Rattle.std.proofs.Common.{◌*◌}
use Rattle.lanes.specs.Lanes.{Summed}
use Rattle.lanes.proofs.three_sums.Given as goal

abbrev pub invariant-loop-m : goal.invariant-loop-m
invariant-loop-m l = Summed l.a l.x l.i l.j l.k (2 * l.m) l.s
