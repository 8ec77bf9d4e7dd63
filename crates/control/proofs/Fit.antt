-- What fit marks have: a lag of their rate, and a run within its limit.
use Rattle.rates.specs.declared.answer.Refusal.{Refusal}
use Rattle.std.proofs.Common.{Result, Ok, Err}
use Prim.Native.Nat.{ℕ, ◌/◌, ◌≤◌}
use mathlib.Core.Path.{◌≡◌, refl}
use mathlib.Core.Bool.{Bool, true, false, cond, not, ◌&&◌}
use native.Mathlib.Omega.{arith}
use borrow.Author.Tests.{leb-true, ltb-false, not-true}
use lib.Dec.{leb, ltb}
use Rattle.rates.specs.Configs.{config_of}
use Rattle.rates.specs.declared.table.Rate.{Rate}
use Rattle.rates.specs.declared.answer.Refusal.TheVariants.{UnfitState}
use Rattle.rates.specs.declared.config.Lc3Config.{Lc3Config}
use Rattle.rates.proofs.Known.{both}
use Rattle.lag.specs.Lag.{quarters, rescaled, lag_of}
use Rattle.lag.specs.declared.rescale.Lag.{Lag}
use Rattle.lag.proofs.Lags.{quarters_ends}
use Rattle.control.specs.State.{settled_limit, lag_fits, run_fits, fit, fit_with, fit_config}
use Rattle.control.specs.declared.marks.Marks.{Marks}

-- a lag that fits lies between the smallest and the largest of its rate, and has a quarter
pub lag_within_lem : (fs : Rate) (lag : Lag) → lag_fits fs true lag ≡ true →
    (rescaled fs.r 128 / 4 ≤ lag.whole) × (lag.whole ≤ rescaled fs.r 912 / 4) × (lag.quarter ≤ 3)
unfolding lag_fits
lag_within_lem fs lag h =
    let t = both (leb (lag_of fs.r (quarters 0)).whole lag.whole && leb lag.whole (lag_of fs.r (quarters 511)).whole) (leb lag.quarter 3) h in
    let u = both (leb (lag_of fs.r (quarters 0)).whole lag.whole) (leb lag.whole (lag_of fs.r (quarters 511)).whole) t.0 in (
      rw quarters_ends.0 at (leb-true (lag_of fs.r (quarters 0)).whole lag.whole u.0),
      rw quarters_ends.1 at (leb-true lag.whole (lag_of fs.r (quarters 511)).whole u.1),
      leb-true lag.quarter 3 t.1,
    )

-- a fit run is not above its limit
pub run_within : (active : Bool) (run : ℕ) (settled : Bool) → run_fits active run settled ≡ true → run ≤ settled_limit
unfolding run_fits
run_within active run settled h =
    let t = both (not (active && ltb 0 run) && not (ltb settled_limit run)) _ h in
    let u = both (not (active && ltb 0 run)) (not (ltb settled_limit run)) t.0 in
    ltb-false settled_limit run (not-true (ltb settled_limit run) u.1)

-- what fitness comes to
pub record Fits (c : Lc3Config) (m : Marks) : Type 0 where
  pub config : config_of m.rate m.duration ≡ Ok c
  pub lag : lag_fits c.fs m.ltpf_active_prev m.lag ≡ true
  pub run : run_fits m.ltpf_active_prev m.run m.settled ≡ true

-- marks that fit the configuration that they name
pub fits_as : (m : Marks) (c : Lc3Config) → config_of m.rate m.duration ≡ Ok c → fit c m ≡ true → Fits c m
fits_as m c e f = let t = both (lag_fits c.fs m.ltpf_active_prev m.lag) _ f in record { config = e; lag = t.0; run = t.1 }

pub fits : (m : Marks) (c : Lc3Config) → fit_config m ≡ Ok c → Fits c m
fits m c h = go (config_of m.rate m.duration) refl h
  where
    picked : (k : Lc3Config) (b : Bool) → fit k m ≡ b → config_of m.rate m.duration ≡ Ok k → cond b (Ok k) (Err UnfitState) ≡ Ok c → Fits c m
    picked k true f e q = let same : k ≡ c = cc in fits_as m c (rw same at e) (rw same at f)
    picked k false f e q = let z : ◌≡◌ {A = ℕ} 0 1 = cc in absurd (omega arith)

    go : (k : Result Lc3Config Refusal) → config_of m.rate m.duration ≡ k → fit_with m k ≡ Ok c → Fits c m
    go (Err a) e q = let z : ◌≡◌ {A = ℕ} 0 1 = cc in absurd (omega arith)
    go (Ok k) e q = picked k (fit k m) refl e q
