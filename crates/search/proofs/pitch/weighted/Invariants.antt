-- `weighted` fills one entry a turn.
use Rattle.search.specs.Lists.{list_of}
use Rattle.search.specs.Pitch.{weight}
use mathlib.Core.Path.{◌≡◌}
use lib.ListN.{length, take}
use Rattle.floats.specs.Single.{◌⊗◌, at}
use Rattle.search.proofs.pitch.weighted.Given as goal

abbrev pub invariant-loop-k : goal.invariant-loop-k
invariant-loop-k l = (length l.r_w_6p4 ≡ 98) × (take l.k l.r_w_6p4 ≡ list_of (λ j. weight j ⊗ at l.r_6p4 j) l.k)
