-- A start gives fit marks; a frame and a loss mark keep them fit.
use Prim.Native.Nat.{ℕ, ◌+◌, min}
use mathlib.Core.Path.{◌≡◌, refl}
use mathlib.Core.Bool.{Bool, true, false, not, ◌&&◌, ◌||◌}
use native.Mathlib.Omega.{arith}
use borrow.Author.Tests.{le-ltb}
use lib.Dec.{eqb}
use Rattle.rates.specs.declared.config.Lc3Config.{Lc3Config}
use Rattle.lag.specs.declared.rescale.Lag.{Lag}
use Rattle.control.specs.State.{cleared_marks, settled_limit, lag_fits, run_fits, fit, run_after, settled_after}
use Rattle.control.specs.Next.{next_marks, unsettled}
use Rattle.control.specs.declared.marks.Marks.{Marks}
use Rattle.control.proofs.Fit.{Fits}

-- an empty run fits, whatever else the registers say
empty_run : (active settled : Bool) → run_fits active 0 settled ≡ true
unfolding run_fits
empty_run true settled = refl
empty_run false settled = refl

-- a run and a settled mark after a frame
next_run : (active : Bool) (run : ℕ) (settled : Bool) →
    run_fits active (run_after active run) (settled_after settled (run_after active run)) ≡ true
unfolding run_fits
next_run true run settled = empty_run true (settled_after settled 0)
next_run false run settled =
    rw (le-ltb settled_limit (min (run + 1) settled_limit) (omega arith)) (go (eqb (min (run + 1) settled_limit) settled_limit) settled)
  where
    go : (b s : Bool) → not (b && not (s || b)) ≡ true
    go false s = refl
    go true false = refl
    go true true = refl

pub start_fits : (rate duration : ℕ) (c : Lc3Config) → fit c (cleared_marks rate duration) ≡ true
unfolding cleared_marks lag_fits
start_fits rate duration c = empty_run false false

pub lost_fits : (m : Marks) (c : Lc3Config) → Fits c m → fit c (unsettled m) ≡ true
lost_fits m c f = rw (f.lag, empty_run m.ltpf_active_prev)

pub stays_fit : (m : Marks) (c : Lc3Config) (active : Bool) (lag : Lag) → lag_fits c.fs active lag ≡ true →
    fit c (next_marks m active lag) ≡ true
unfolding next_marks
stays_fit m c active lag h = rw (h, next_run active)
