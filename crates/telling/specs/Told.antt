-- What a frame is going to do, as its side information and the marks decide it. Samples and coefficients decide none of this.
use Rattle.rates.specs.declared.answer.Refusal.{Refusal}
use Rattle.rates.specs.declared.config.Lc3Config.{Lc3Config}
use Rattle.std.specs.Prelude.{ℕ, Result, Ok, Err}
use Rattle.lag.specs.declared.pitch.PitchRecord.{PitchRecord}
use Rattle.filter.specs.declared.transition.Transition.{Transition}
use Rattle.filter.specs.declared.transition.Transition.TheVariants.{Inactive, Activated, Deactivated, ActiveNoPitchChange, ActivePitchChanged}
use Rattle.control.specs.declared.marks.Marks.{Marks}
use Rattle.judging.specs.Judge.{judged_side}
use Rattle.judging.specs.declared.plan.SideInfo.{SideInfo}
use Rattle.judging.specs.declared.plan.Plan.{Plan}
use Rattle.telling.specs.Roundings.{rounding_for}
use Rattle.telling.specs.declared.told.Told.{Told}

-- the cases as docs/SCOPE.md numbers them
abbrev pub case_number : Transition → ℕ
case_number Inactive = 1
case_number Activated = 2
case_number Deactivated = 3
case_number ActiveNoPitchChange = 4
case_number ActivePitchChanged = 5

-- 9, which fitness decided; then 6 and 7
abbrev pub judged_fitted : Marks → SideInfo → Result Lc3Config Refusal → Result Plan Refusal
judged_fitted m side (Err answer) = Err answer
judged_fitted m side (Ok c) = judged_side m c side

-- the same by what a refusal becomes, and with what fitness came to handed on
abbrev pub refused_as : {R : Type 0} → (Refusal → R) → Result Plan Refusal → Result Plan R
refused_as of (Err refusal) = Err (of refusal)
refused_as of (Ok plan) = Ok plan

abbrev pub fitted_judged : {R : Type 0} → (Refusal → R) → Marks → SideInfo → Result Lc3Config R → Result Plan R
fitted_judged of m side (Err reason) = Err reason
fitted_judged of m side (Ok c) = refused_as of (judged_side m c side)

-- what a plan tells, and how the lag of its frame's pitch was rounded
abbrev pub told_of : Plan → PitchRecord → Told
told_of plan pitch = record {
  transition = plan.transition;
  active = plan.active;
  lag = plan.lag;
  gain = plan.gain;
  rounding = rounding_for plan.config.fs pitch;
}
