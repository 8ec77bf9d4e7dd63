-- `root::whole_root` meets its contract. The invariant: the root is among the 2 ^ d numbers from q on, and each turn halves them. Assumes nothing.
use Prim.Native.Nat.{◌+◌, ◌*◌, ◌^◌, ◌≤◌, ◌<◌}
use Rattle.root.proofs.whole_root.Given as goal

abbrev pub invariant-loop-d : goal.invariant-loop-d
invariant-loop-d l = (l.q + 2 ^ l.d ≤ 2 ^ 24) × (l.q * l.q ≤ l.n) × (l.n < (l.q + 2 ^ l.d) * (l.q + 2 ^ l.d))
