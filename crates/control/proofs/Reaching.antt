-- How far back the filters of a rate read: one law over the table of rates.
use Prim.Native.Nat.{ℕ, ◌+◌, ◌-◌, ◌*◌, ◌/◌, ◌≤◌}
use native.Mathlib.Omega.{arith}
use Rattle.rates.specs.Configs.{frame_of}
use Rattle.rates.specs.declared.table.Rate.{Rate}
use Rattle.rates.specs.declared.duration.FrameDuration.{FrameDuration}
use Rattle.rates.specs.declared.duration.FrameDuration.TheVariants.{TenMs, SevenPointFiveMs}
use Rattle.rates.specs.declared.config.Lc3Config.{Lc3Config}
use Rattle.rates.proofs.Rows.{bound_at}
use Rattle.lag.specs.Lag.{rescaled}
use Rattle.lag.proofs.Reach.{longest_lag}
use Rattle.control.specs.State.{settled_limit}
use Rattle.control.proofs.Sizes.{FromTable}

-- the largest whole lag of a rate, and the taps beyond it
abbrev pub reach : Rate → ℕ
reach fs = rescaled fs.r 912 / 4 + fs.l_den - fs.l_den / 2

module _ (c : Lc3Config) (k : FromTable c) where
  -- the history holds it
  pub reach_within : reach c.fs ≤ c.history
  reach_within = omega (arith, longest_lag k.0 c.fs k.1.row c.n_ms, k.1.past)

  -- the limit's frames hold it, and a fade before it
  pub limit_enough : reach c.fs + c.fs.fade ≤ settled_limit * c.nf
  unfolding rescaled
  limit_enough = rw k.1.frame (go c.n_ms)
    where
      go : (t : FrameDuration) → reach c.fs + c.fs.fade ≤ settled_limit * frame_of c.fs t
      go TenMs = bound_at (λ (r : Rate). reach r + r.fade) (λ (r : Rate). settled_limit * r.nf_10) tt k.0 c.fs k.1.row
      go SevenPointFiveMs = bound_at (λ (r : Rate). reach r + r.fade) (λ (r : Rate). settled_limit * r.nf_7p5) tt k.0 c.fs k.1.row
