-- How far back a filter can read: never outside the used history, for every rate, duration, lag index and tap.
use Rattle.std.proofs.Common.{Some}
use Prim.Native.Nat.{ℕ, ◌+◌, ◌/◌, ◌≤◌}
use mathlib.Core.Path.{◌≡◌}
use native.Mathlib.Omega.{arith}
use Rattle.rates.specs.Table.{row_of}
use Rattle.rates.specs.Configs.{history_of}
use Rattle.rates.specs.declared.table.Rate.{Rate}
use Rattle.rates.specs.declared.duration.FrameDuration.{FrameDuration}
use Rattle.rates.specs.declared.duration.FrameDuration.TheVariants.{TenMs, SevenPointFiveMs}
use Rattle.rates.proofs.Rows.{bound_at}
use Rattle.lag.specs.Lag.{quarters, rescaled}
use Rattle.lag.proofs.Lags.{quarters_range, rescaled_keeps_order}

-- the whole lag of q quarters at a rate
abbrev whole : Rate → ℕ → ℕ
whole fs q = rescaled fs.r q / 4

module _ (hz : ℕ) (fs : Rate) (known : row_of hz ≡ Some fs) where
  -- the smallest lag leaves 18 samples between a filter's output and the newest output that it reads
  pub shortest_lag : fs.l_den / 2 + 18 ≤ whole fs 128
  unfolding rescaled
  shortest_lag = bound_at (λ r. r.l_den / 2 + 18) (λ r. whole r 128) tt hz fs known

  -- the largest lag stays within the history
  pub longest_lag : (d : FrameDuration) → whole fs 912 + fs.l_den ≤ history_of fs d + fs.l_den / 2
  unfolding rescaled
  longest_lag TenMs = bound_at (λ r. whole r 912 + r.l_den) (λ r. history_of r TenMs + r.l_den / 2) tt hz fs known
  longest_lag SevenPointFiveMs =
      bound_at (λ r. whole r 912 + r.l_den) (λ r. history_of r SevenPointFiveMs + r.l_den / 2) tt hz fs known

  -- Tap k of the denominator at sample n of a frame reads n - lag + l_den/2 - k samples from the frame's start: inside the history, and
  -- at least 18 samples before n.
  pub tap_inside : (index : ℕ) → index ≤ 511 → (d : FrameDuration) (n k : ℕ) → k ≤ fs.l_den →
      (whole fs (quarters index) + k ≤ history_of fs d + n + fs.l_den / 2)
      × (n + fs.l_den / 2 + 18 ≤ n + whole fs (quarters index) + k)
  tap_inside index h d n k t =
      let q = quarters_range index h in
      let low = rescaled_keeps_order fs.r q.0 in
      let high = rescaled_keeps_order fs.r q.1 in
      omega (arith, shortest_lag, longest_lag d)
