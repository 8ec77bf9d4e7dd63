-- HOW SMALL THE LIMIT MAY BE. Two frames are shorter than what a filter of the longest lag reaches and a fade, in every row of the table and at
-- both durations: after two inactive frames such a filter still reads a sample of the first one's fade, or one before it. So no number of
-- frames below the limit holds both.
use Rattle.std.proofs.Common.{Some}
use Prim.Native.Nat.{ℕ, zero, suc, ◌+◌, ◌*◌, ◌≤◌, ◌<◌}
use mathlib.Core.Path.{◌≡◌}
use native.Mathlib.Omega.{arith}
use Rattle.rates.specs.Table.{row_of}
use Rattle.rates.specs.Configs.{frame_of}
use Rattle.rates.specs.declared.table.Rate.{Rate}
use Rattle.rates.specs.declared.duration.FrameDuration.{FrameDuration}
use Rattle.rates.specs.declared.duration.FrameDuration.TheVariants.{TenMs, SevenPointFiveMs}
use Rattle.rates.proofs.Rows.{bound_at}
use Rattle.lag.specs.Lag.{rescaled}
use Rattle.control.specs.State.{settled_limit}
use Rattle.control.proofs.Reaching.{reach}

module _ (hz : ℕ) (fs : Rate) (known : row_of hz ≡ Some fs) where
  pub two_frames_short : (t : FrameDuration) → 2 * frame_of fs t < reach fs + fs.fade
  unfolding rescaled
  two_frames_short TenMs = bound_at (λ (r : Rate). suc (2 * r.nf_10)) (λ (r : Rate). reach r + r.fade) tt hz fs known
  two_frames_short SevenPointFiveMs = bound_at (λ (r : Rate). suc (2 * r.nf_7p5)) (λ (r : Rate). reach r + r.fade) tt hz fs known

  pub limit_least : (t : FrameDuration) (n : ℕ) → reach fs + fs.fade ≤ n * frame_of fs t → settled_limit ≤ n
  limit_least t zero h = absurd (omega (arith, two_frames_short t))
  limit_least t (suc zero) h = absurd (omega (arith, two_frames_short t))
  limit_least t (suc (suc zero)) h = absurd (omega (arith, two_frames_short t))
  limit_least t (suc (suc (suc n))) h = omega arith
