-- THE ROUNDING COLUMN. `rounding_column`: a frame's row is of an inactive frame, and its rounding is a dash; or it shows the lag and the rounding
-- that one lag lookup gives for the frame's index at the setting's rate.
use mathlib.Core.Path.{◌≡◌, refl, sym, ap, ◌∙◌, subst}
use mathlib.Core.Bool.{Bool, true, false, cond}
use Rattle.std.proofs.Common.{Option, Some, None, Result}
use Rattle.rates.specs.declared.table.Rate.{Rate}
use Rattle.rates.specs.declared.answer.Refusal.{Refusal}
use Rattle.lag.specs.Lag.{looked_up_lag}
use Rattle.lag.specs.declared.pitch.Present as present
use Rattle.lag.specs.declared.pitch.PitchRecord.{PitchRecord}
use Rattle.lag.specs.declared.pitch.PitchRecord.TheVariants.{Absent, Present}
use Rattle.lag.specs.declared.rescale.RoundedLag.{RoundedLag}
use Rattle.lag.proofs.Rounding.{lag_alone, same_lag_lem}
use Rattle.judging.specs.Pitch.{is_active, lag_where, lag_for}
use Rattle.judging.specs.declared.plan.SideInfo.{SideInfo}
use Rattle.judging.proofs.Judging.{declined, passed, verdict}
use Rattle.judging.specs.declared.plan.Plan.{Plan}
use Rattle.decoder.specs.declared.state.Decoder.{Decoder}
use Rattle.settling_laws.specs.Calls.{frame, reply, FitState}
use Rattle.settling_laws.proofs.Judging.{OutcomeOf}
use Rattle.telling.specs.Roundings.{rounding_of, rounding_for}
use Rattle.replaying.specs.declared.frame.Columns.{Columns}
use Rattle.replay_laws.specs.Whole.{Setting, shown_by, zeros, given, shown_of}
use Rattle.replay_laws.proofs.OneCall.{outcome_of_lem, by_outcome}

-- what is shown of a frame's pitch: no lag, or one lookup of its index
pub data OneLookup (fs : Rate) (pitch : PitchRecord) (c : Columns) : Type 0 where
  no_lag_lem : c.told.active ≡ false → c.told.rounding ≡ None → OneLookup fs pitch c
  looked_up_lem : (p : present.Present) (l : RoundedLag) → pitch ≡ Present p → looked_up_lag fs p.index ≡ Some l →
      c.told.active ≡ true → c.told.lag ≡ l.lag → c.told.rounding ≡ Some l.rounding → OneLookup fs pitch c

-- a row with a lag that the decoder found
of_found : (fs : Rate) (pitch : PitchRecord) (c : Columns) → c.told.active ≡ is_active pitch → c.told.rounding ≡ rounding_for fs pitch →
    lag_for fs pitch ≡ Some c.told.lag → OneLookup fs pitch c
of_found fs Absent c a r f = no_lag_lem a r
of_found fs (Present p) c a r f =
    go p.active (looked_up_lag fs p.index) refl a r (ap (lag_where p.active) (same_lag_lem fs p.index) ∙ f)
  where
    go : (b : Bool) (u : Option RoundedLag) → looked_up_lag fs p.index ≡ u → c.told.active ≡ b → c.told.rounding ≡ cond b (rounding_of u) None →
        lag_where b (lag_alone u) ≡ Some c.told.lag → OneLookup fs (Present p) c
    go false u e t q g = no_lag_lem t q
    go true None e t q g = cc
    go true (Some l) e t q g = let same : l.lag ≡ c.told.lag = cc in looked_up_lem p l refl e t (sym same) q

pub rounding_column : (setting : Setting) (d : Decoder) → FitState setting.config d → (side : SideInfo) (c : Columns) →
    shown_of setting d (Some side) ≡ Some c → OneLookup setting.config.fs side.pitch c
rounding_column setting d fit side c e =
    go (outcome_of_lem setting side) (ap (λ (v : Result Plan Refusal). shown_by v side.pitch settled) (sym (by_outcome setting d fit side)) ∙ e)
  where
    settled : Bool
    settled = (reply d (frame (given setting side))).settled

    go : (o : OutcomeOf setting.config (given setting side)) →
        shown_by (verdict setting.config setting.numerators setting.denominators side (zeros setting) d.registers.marks o) side.pitch settled ≡ Some c →
        OneLookup setting.config.fs side.pitch c
    go (declined why l h) q = cc
    go (passed lag p) q = subst (λ (s : Option Columns). Of s) q (of_found setting.config.fs side.pitch _ refl refl p.found)
      where
        Of : Option Columns → Type 0
        Of None = OneLookup setting.config.fs side.pitch c
        Of (Some x) = OneLookup setting.config.fs side.pitch x
