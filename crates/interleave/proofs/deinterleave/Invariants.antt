-- `deinterleave` copies a sample of each ear a turn.
use Rattle.std.proofs.Common.{◌≡◌}
use Rattle.slices.proofs.Pasted.{pasted}
use Rattle.interleave.specs.Turns.{lefts, rights}
use Rattle.interleave.proofs.deinterleave.Given as goal

abbrev pub invariant-loop-i : goal.invariant-loop-i
invariant-loop-i l =
    (l.left ≡ pasted l.initial.left l.left_at (lefts l.samples) l.i) × (l.right ≡ pasted l.initial.right l.right_at (rights l.samples) l.i)
