-- The lengths that a known rate and duration fix, and their bounds, over the table of rates.
use Rattle.std.proofs.Common.{Some, Ok}
use Prim.Native.Nat.{ℕ, ◌+◌, ◌*◌, ◌≤◌}
use mathlib.Core.Path.{◌≡◌}
use lib.Dec.{T, leb}
use Rattle.rates.specs.Table.{row_of, rates}
use Rattle.rates.specs.Configs.{frame_of, history_of, config_of}
use Rattle.rates.specs.declared.table.Rate.{Rate}
use Rattle.rates.specs.declared.duration.FrameDuration.{FrameDuration}
use Rattle.rates.specs.declared.duration.FrameDuration.TheVariants.{TenMs, SevenPointFiveMs}
use Rattle.rates.specs.declared.config.Lc3Config.{Lc3Config}
use Rattle.rates.proofs.Rows.{every, bound_at}
use Rattle.rates.proofs.Known.{Known, known}

-- a configuration of the table, with its rate
abbrev pub FromTable : Lc3Config → Type 0
FromTable c = (hz : ℕ) × Known hz c

-- the configuration of a rate and a duration
pub from_table : (hz us : ℕ) (c : Lc3Config) → config_of hz us ≡ Ok c → FromTable c
from_table hz us c e = (hz, known hz us c e)

-- a bound that holds in every row at both durations
bound_both : (f g : Rate → FrameDuration → ℕ) →
    T (every (λ (r : Rate). leb (f r TenMs) (g r TenMs)) rates) →
    T (every (λ (r : Rate). leb (f r SevenPointFiveMs) (g r SevenPointFiveMs)) rates) →
    (hz : ℕ) (row : Rate) → row_of hz ≡ Some row → (d : FrameDuration) → f row d ≤ g row d
bound_both f g s t hz row p TenMs = bound_at (λ (r : Rate). f r TenMs) (λ (r : Rate). g r TenMs) s hz row p
bound_both f g s t hz row p SevenPointFiveMs = bound_at (λ (r : Rate). f r SevenPointFiveMs) (λ (r : Rate). g r SevenPointFiveMs) t hz row p

-- the bounds that a decoder leans on
pub record Sized (c : Lc3Config) : Type 0 where
  pub frame_some : 1 ≤ c.nf
  pub twice : 2 * c.nf ≤ c.history
  pub past_fits : c.history ≤ 1080
  pub line_fits : c.history + c.nf ≤ 1440
  pub fade_least : 8 ≤ c.fs.fade
  pub fade_most : c.fs.fade ≤ 120
  pub rest : c.fs.fade + 8 ≤ c.nf
  pub least : 2 ≤ c.fs.l_den
  pub most : c.fs.l_den ≤ 12

pub sized : (c : Lc3Config) → FromTable c → Sized c
sized c k =
    let row = c.fs in
    let d = c.n_ms in
    record {
      frame_some = rw k.1.frame (bound_both (λ r d. 1) frame_of tt tt k.0 row k.1.row d);
      twice = rw (k.1.frame, k.1.past) (bound_both (λ r d. 2 * frame_of r d) history_of tt tt k.0 row k.1.row d);
      past_fits = rw k.1.past (bound_both history_of (λ r d. 1080) tt tt k.0 row k.1.row d);
      line_fits = rw (k.1.past, k.1.frame) (bound_both (λ r d. history_of r d + frame_of r d) (λ r d. 1440) tt tt k.0 row k.1.row d);
      fade_least = bound_at (λ r. 8) (λ r. r.fade) tt k.0 row k.1.row;
      fade_most = bound_at (λ r. r.fade) (λ r. 120) tt k.0 row k.1.row;
      rest = rw k.1.frame (bound_both (λ r d. r.fade + 8) frame_of tt tt k.0 row k.1.row d);
      least = bound_at (λ r. 2) (λ r. r.l_den) tt k.0 row k.1.row;
      most = bound_at (λ r. r.l_den) (λ r. 12) tt k.0 row k.1.row;
    }
