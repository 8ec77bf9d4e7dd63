-- `window_sums` sums three times eight windows a turn, and the last two by themselves.
use Prim.Native.Nat.{ℕ, ◌+◌, ◌*◌, ◌≤◌, ◌<◌}
use mathlib.Core.Path.{◌≡◌}
use mathlib.Core.List.{List}
use lib.Ieee.{Float}
use lib.ListN.{length}
use Rattle.floats.specs.Single.{at}
use Rattle.lanes.specs.Sums.{product_sum, window}
use Rattle.search.proofs.pitch.Signal.window_sums.Given as goal

abbrev pub sum : List Float → ℕ → ℕ → Float
sum x len i = product_sum (window x 114) (window x (0 + i)) len

abbrev pub invariant-loop-b : goal.invariant-loop-b
invariant-loop-b l = (l.b ≤ 4) × (length l.sums ≡ 98) × ((k : ℕ) → k < 24 * l.b → at l.sums k ≡ sum l.x_6p4 l.len6p4 k)
