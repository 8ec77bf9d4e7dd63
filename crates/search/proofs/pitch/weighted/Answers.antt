-- `weighted` fills one entry a turn.
use Rattle.search.proofs.Listed.{fill_one, filled}
use Rattle.search.specs.Lists.{list_of}
use Rattle.search.specs.Pitch.{weighted, weight}
use Prim.Native.Nat.{ℕ}
use mathlib.Core.Path.{◌≡◌, refl}
use lib.IntN.{pos}
use lib.Ieee.{Float, binary32, mul, sub, div, of_bits, of_int, round}
use Rattle.floats.specs.Single.{◌⊗◌}
use borrow.Author.Rules.{rules}
use Rattle.search.proofs.pitch.weighted.Goals as goal

pub loop-k-init : goal.loop-k-init
unfolding list_of
loop-k-init c = search rules

-- the weight in the code's constants
in_code : (k : ℕ) (r : Float) →
    mul binary32 (sub binary32 (of_bits binary32 1065353216) (div binary32 (mul binary32 (of_bits binary32 1056964608) (of_int binary32 (pos k))) (of_bits binary32 1120010240))) r ≡ weight k ⊗ r
unfolding of_bits of_int round
in_code k r = refl

pub loop-k-preserved : goal.loop-k-preserved
loop-k-preserved c = (search rules, fill_one _ _ _ _ (search rules) c.loop-k.invariant.1 (in_code _ _))

pub returns : goal.returns
unfolding weighted
returns c = filled _ _ 98 c.loop-k.k (search rules) (search rules) (search rules) c.loop-k.invariant.1
