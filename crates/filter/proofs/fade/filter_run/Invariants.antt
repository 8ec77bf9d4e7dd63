-- `filter_run` makes outputs in blocks of eight, the last of which may begin inside the one before it.
use Prim.Native.Nat.{◌+◌, ◌-◌, ◌*◌, min}
use mathlib.Core.Path.{◌≡◌}
use lib.ListN.{length}
use Rattle.filter.specs.Fade.{grown}
use Rattle.filter.specs.Blocks.{next_in, padded}
use Rattle.filter.specs.Kept.{kept_as}
use Rattle.filter.proofs.fade.filter_run.Given as goal

abbrev pub invariant-loop-b : goal.invariant-loop-b
invariant-loop-b l =
    (length l.y ≡ length l.initial.y)
    × (l.y ≡ grown (next_in l.fading l.history l.fade (kept_as l.fn.filter) (padded (l.history - 16) l.x)) l.initial.y (l.history + l.from) (min (8 * l.b) l.len))
