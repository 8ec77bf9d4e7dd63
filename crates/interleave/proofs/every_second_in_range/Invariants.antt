-- `every_second_in_range` holds the test of the samples so far beside that of the rest.
use Rattle.std.proofs.Common.{◌≡◌, ◌-◌, ◌&&◌, drop, length}
use Rattle.floats.specs.Single.{all_in_range}
use Rattle.interleave.specs.Turns.{every_second}
use Rattle.interleave.proofs.every_second_in_range.Given as goal

abbrev pub invariant-loop-i : goal.invariant-loop-i
invariant-loop-i l =
    all_in_range (every_second (drop l.from l.samples)) ≡ (l.all && all_in_range (every_second (drop l.i l.samples)))

abbrev pub decreases-loop-i : goal.decreases-loop-i
decreases-loop-i l = length l.samples - l.i
