-- The resampler's sums side by side: rows of samples, and eight sums that lie eight outputs apart.
use Rattle.std.specs.Prelude.{ℕ, zero, suc, ◌+◌, ◌-◌, ◌*◌, ◌/◌, ◌≤◌, ◌<◌, cond, List, ◌≡◌, Float, length}
use Rattle.floats.specs.Single.{0·0, at}
use Rattle.lanes.specs.Lanes.{all, listed, row_added}
use Rattle.resampling.specs.Resample.{used, entry}
use Rattle.lanes.specs.declared.Lanes.{Lanes}

-- entry b of row s is the sample that tap s of output 8b reads
pub record Spread (x : List Float) (p : ℕ) (rows : List Float) : Type 0 where
  pub long : length rows ≡ 1392
  pub entries : (s b : ℕ) → s ≤ 240 / p + 105 / p → b < 16 → at rows (16 * s + b) ≡ at x (60 - 240 / p + s + 120 / p * b)

-- the first taps of outputs n + 8b, n + 8(b + 1), .., n + 8(b + 7)
unfoldable pub tap_lanes : List Float → List Float → ℕ → ℕ → ℕ → ℕ → Lanes
tap_lanes rows filter p n b zero = all 0·0
tap_lanes rows filter p n b (suc j) =
    cond (used p n j) (row_added (tap_lanes rows filter p n b j) (entry filter p n j) rows (16 * (15 * n / p + j) + b)) (tap_lanes rows filter p n b j)

-- entries 16n to 16n + 15 are the sums of outputs n, n + 8, .., n + 120, for each n below count
pub record Phases (rows filter : List Float) (p count : ℕ) (sums : List Float) : Type 0 where
  pub long : length sums ≡ 128
  pub low : (n b : ℕ) → n < count → b < 8 → at sums (16 * n + b) ≡ at (listed (tap_lanes rows filter p n 0 (240 / p + 1))) b
  pub high : (n b : ℕ) → n < count → b < 8 → at sums (16 * n + 8 + b) ≡ at (listed (tap_lanes rows filter p n 8 (240 / p + 1))) b
