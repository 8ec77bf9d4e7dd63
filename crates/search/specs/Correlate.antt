-- The correlations of a frame with what lies some lags before it.
use Rattle.std.specs.Prelude.{ℕ, ◌+◌, ◌-◌, Bool, cond, ◌&&◌, List, leb, Float, length}
use Rattle.lanes.specs.Sums.{product_sum, window}
use Rattle.search.specs.Lists.{list_of}

-- the frame's correlations, of lags `from`, `from` + 1, ..: x is the signal, entry start the frame's first sample, len its length
unfoldable pub correlated : List Float → ℕ → ℕ → ℕ → ℕ → List Float
correlated x start len from count = list_of (λ j. product_sum (window x start) (window x (start - (from + j))) len) count

-- the lags are 8 to 17, from 1 on; the frame and all lags lie within the signal
unfoldable pub lags_inside : ℕ → ℕ → ℕ → ℕ → ℕ → Bool
lags_inside long start len from count = leb 8 count && leb count 17 && leb (start + len) long && leb 1 from && leb (from + count) (start + 1)

-- what `correlate` makes of r: as many correlations as it has entries; where they do not lie within x, r is as it was
unfoldable pub correlated_into : List Float → List Float → ℕ → ℕ → ℕ → List Float
correlated_into r x start len from = cond (lags_inside (length x) start len from (length r)) (correlated x start len from (length r)) r
