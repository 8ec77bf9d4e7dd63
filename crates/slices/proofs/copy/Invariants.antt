-- `copy` replaces one entry a turn.
use Prim.Native.Nat.{◌≤◌}
use mathlib.Core.Path.{◌≡◌}
use lib.ListN.{length}
use Rattle.slices.proofs.Pasted.{pasted}
use Rattle.slices.proofs.copy.Given as goal

abbrev pub invariant-loop-i : goal.invariant-loop-i
invariant-loop-i g l = (l.i ≤ l.i-end) × (l.i-end ≡ length l.block) × (length l.into ≡ length l.initial.into) × (l.into ≡ pasted l.initial.into l.at l.block l.i)
