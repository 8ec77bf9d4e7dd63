-- THE TOLD PLAN. `frame_agrees`: the verdict on a frame, with any set and samples, is a refusal with another answer than 0, or accepts the plan that
-- is told. `fitted_same`: where a refusal stays what it is, `judge_fitted` promises what is told.
use Rattle.lag.specs.declared.rescale.Lag.{Lag}
use Rattle.rates.specs.declared.answer.Refusal.{Refusal}
use Rattle.std.proofs.Common.{Option, Some, None, Result, Ok, Err}
use mathlib.Core.Path.{◌≡◌, refl}
use mathlib.Core.Bool.{Bool, true, false}
use mathlib.Core.List.{List}
use lib.Dec.{leb}
use lib.Ieee.{Float}
use Rattle.floats.specs.Single.{all_in_range}
use Rattle.rates.specs.Answers.{refusal_number}
use Rattle.rates.specs.declared.answer.Refusal.TheVariants.{CoefficientCount, CoefficientNotFinite, SampleCount, TooManyBits, IndexTooLarge, SampleOutOfRange}
use Rattle.rates.specs.declared.config.Lc3Config.{Lc3Config}
use Rattle.rates.proofs.Refusals.{never_done}
use Rattle.control.specs.declared.marks.Marks.{Marks}
use Rattle.judging.specs.Pitch.{lag_for}
use Rattle.judging.specs.Judge.{unless, set_counts, set_finite, plan_of, lag_judged, judged_side, ranged, judged_frame}
use Rattle.judging.specs.declared.plan.SideInfo.{SideInfo}
use Rattle.judging.specs.declared.plan.Plan.{Plan}
use Rattle.telling.specs.Told.{judged_fitted, refused_as, fitted_judged}

-- a verdict, beside the one that is told
pub data Agree : Result Plan Refusal → Result Plan Refusal → Type 0 where
  refused : {told : Result Plan Refusal} (refusal : Refusal) → (refusal_number refusal ≡ 0 → ⊥) → Agree (Err refusal) told
  accepted : (plan : Plan) → Agree (Ok plan) (Ok plan)

unless_agrees : {v told : Result Plan Refusal} (b : Bool) (refusal : Refusal) → Agree v told → Agree (unless b refusal v) told
unless_agrees true refusal a = a
unless_agrees false refusal a = refused refusal (never_done refusal)

side_agrees : (m : Marks) (c : Lc3Config) (side : SideInfo) (inside : Bool) → Agree (ranged inside (judged_side m c side)) (judged_side m c side)
unfolding judged_side
side_agrees m c side inside = go (leb side.nbits 3200) (lag_for c.fs side.pitch)
  where
    go : (b : Bool) (l : Option Lag) → let v = unless b TooManyBits (lag_judged m c side l) in Agree (ranged inside v) v
    go false l = refused TooManyBits (never_done TooManyBits)
    go true None = refused IndexTooLarge (never_done IndexTooLarge)
    go true (Some lag) = unless_agrees inside SampleOutOfRange (accepted (plan_of m c side lag))

pub frame_agrees : (m : Marks) (numerators denominators : List Float) (side : SideInfo) (full : Lc3Config → Bool) (samples : List Float) (k : Result Lc3Config Refusal) →
    Agree (judged_frame m numerators denominators side full samples k) (judged_fitted m side k)
frame_agrees m numerators denominators side full samples (Err refusal) = refused refusal (never_done refusal)
frame_agrees m numerators denominators side full samples (Ok c) =
    unless_agrees (set_counts c.fs.l_den numerators denominators) CoefficientCount
    (unless_agrees (set_finite numerators denominators) CoefficientNotFinite
    (unless_agrees (full c) SampleCount (side_agrees m c side (all_in_range samples))))

pub fitted_same : (m : Marks) (side : SideInfo) (k : Result Lc3Config Refusal) → fitted_judged (λ a. a) m side k ≡ judged_fitted m side k
fitted_same m side (Err refusal) = refl
fitted_same m side (Ok c) = go _
  where
    go : (v : Result Plan Refusal) → refused_as (λ a. a) v ≡ v
    go (Err refusal) = refl
    go (Ok plan) = refl
