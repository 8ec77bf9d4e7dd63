-- `no_lag_told`: of a frame that is not active no lag, no rounding and no row is told.
use Rattle.lag.specs.declared.pitch.Present.{Present}
use Rattle.rates.specs.declared.answer.Refusal.{Refusal}
use Rattle.std.proofs.Common.{Option, Some, None, Result, Ok, Err}
use mathlib.Core.Path.{◌≡◌, refl, ap}
use mathlib.Core.Bool.{Bool, true, false}
use lib.Dec.{leb}
use lib.IntN.{pos}
use Rattle.rates.specs.declared.answer.Refusal.TheVariants.{TooManyBits}
use Rattle.rates.specs.declared.table.Rate.{Rate}
use Rattle.rates.specs.declared.config.Lc3Config.{Lc3Config}
use Rattle.lag.specs.Sent.{sent_of}
use Rattle.lag.specs.declared.rescale.Lag.{Lag}
use Rattle.control.specs.declared.marks.Marks.{Marks}
use Rattle.judging.specs.Pitch.{active_in, lag_for}
use Rattle.judging.specs.Judge.{unless, lag_judged, judged_side}
use Rattle.judging.specs.declared.plan.SideInfo.{SideInfo}
use Rattle.judging.proofs.Lags.{lag_for_none}
use Rattle.telling.specs.Roundings.{sent_rounding}
use Rattle.telling.specs.Told.{judged_fitted}
use Rattle.on_ring.specs.Registers.{fit_ring}
use Rattle.on_ring.specs.declared.registers.Registers.{Registers}
use Rattle.c_telling.specs.Tellings.{no_row, rounding_number, told_by, told_for}
use Rattle.c_telling.specs.declared.told.ToldForC.{ToldForC}

pub record NoLag (t : ToldForC) : Type 0 where
  pub whole : t.whole ≡ 0
  pub quarter : t.quarter ≡ 0
  pub rounding : t.rounding ≡ pos 0
  pub gain : t.gain ≡ no_row

unrounded : (fs : Rate) (sent : Option Present) → active_in sent ≡ false → rounding_number (sent_rounding fs sent) ≡ pos 0
unrounded fs None e = refl
unrounded fs (Some p) e = rw e

side_no_lag : (m : Marks) (c : Lc3Config) (side : SideInfo) →
    let t = told_by side.pitch (judged_side m c side) in t.active ≡ false → NoLag t
unfolding judged_side
side_no_lag m c side = go (leb side.nbits 3200) (lag_for c.fs side.pitch) refl
  where
    go : (b : Bool) (l : Option Lag) → lag_for c.fs side.pitch ≡ l →
        let t = told_by side.pitch (unless b TooManyBits (lag_judged m c side l)) in t.active ≡ false → NoLag t
    go false l h e = record { whole = refl; quarter = refl; rounding = refl; gain = refl }
    go true None h e = record { whole = refl; quarter = refl; rounding = refl; gain = refl }
    go true (Some lag) h e =
        let none = lag_for_none c.fs (sent_of side.pitch) lag h e in
        record {
          whole = ap (λ (l : Lag). l.whole) none;
          quarter = ap (λ (l : Lag). l.quarter) none;
          rounding = unrounded c.fs (sent_of side.pitch) e;
          gain = rw e;
        }

pub no_lag_told : (r : Registers) (side : SideInfo) → (told_for r side).active ≡ false → NoLag (told_for r side)
unfolding told_for
no_lag_told r side = go (fit_ring r)
  where
    go : (k : Result Lc3Config Refusal) → let t = told_by side.pitch (judged_fitted r.marks side k) in t.active ≡ false → NoLag t
    go (Err answer) e = record { whole = refl; quarter = refl; rounding = refl; gain = refl }
    go (Ok c) e = side_no_lag r.marks c side e
