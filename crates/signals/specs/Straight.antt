-- Straight signals: a history at the front of an array of zeros, and the samples of a frame.
use Rattle.std.specs.Prelude.{ℕ, List, ℤ, pos, get_or, replicate, Float}
use Rattle.std.specs.Float.{binary32}
use Rattle.std.specs.Float.Ieee.{of_int}
use Rattle.floats.specs.Single.{0·0}
use Rattle.slices.specs.Written.{written}
use Rattle.lanes.specs.Sums.{window}

-- n entries of x from start on, at the front of an array of zeros
unfoldable pub laid : ℕ → List Float → ℕ → ℕ → List Float
laid size x start n = written (replicate size 0·0) 0 (window x start) n

-- sample i of a frame of whole numbers, as a float
abbrev pub sampled : List ℤ → ℕ → Float
sampled frame i = of_int binary32 (get_or frame i (pos 0))
