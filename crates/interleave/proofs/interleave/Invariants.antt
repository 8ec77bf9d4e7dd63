-- `interleave` copies a sample of each ear back a turn.
use Rattle.std.proofs.Common.{◌≡◌, ◌*◌, take, drop}
use Rattle.slices.proofs.Pasted.{pasted}
use Rattle.interleave.specs.Turns.{in_turn}
use Rattle.interleave.proofs.interleave.Given as goal

abbrev pub invariant-loop-i : goal.invariant-loop-i
invariant-loop-i l =
    l.samples ≡ pasted l.initial.samples 0 (in_turn (take l.nf (drop l.left_at l.left)) (take l.nf (drop l.right_at l.right))) (2 * l.i)
