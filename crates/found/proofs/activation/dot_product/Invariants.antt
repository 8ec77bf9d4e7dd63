-- `dot_product` adds one tap a turn.
use Prim.Native.Nat.{◌≤◌}
use mathlib.Core.Path.{◌≡◌}
use Rattle.found.specs.Activation.{dotted}
use Rattle.found.specs.Taps.{turn}
use Rattle.found.proofs.Turns.{passed}
use Rattle.found.proofs.activation.dot_product.Given as goal

abbrev pub invariant-loop-k : goal.invariant-loop-k
invariant-loop-k l = (l.k ≡ turn 2 (passed 2 l.k)) × (passed 2 l.k ≤ 5) × (l.result ≡ dotted l.x l.at l.d l.signal (passed 2 l.k))
