-- THE CASE COLUMN. `as_shown`: the case, the activity, the lag and the gain that a frame's row shows are those by which its samples are made. All
-- that the call gives back is what an accepted frame gives whose plan is the one that is shown.
use mathlib.Core.Path.{◌≡◌, sym, ap, ◌∙◌}
use mathlib.Core.Bool.{Bool}
use Rattle.std.proofs.Common.{Some, Result}
use Rattle.rates.specs.declared.answer.Refusal.{Refusal}
use Rattle.judging.specs.Judge.{plan_of}
use Rattle.judging.specs.declared.plan.SideInfo.{SideInfo}
use Rattle.judging.proofs.Judging.{declined, passed, verdict}
use Rattle.judging.specs.declared.plan.Plan.{Plan}
use Rattle.decoder.specs.Frame.{accepted, done, framed_with, framed}
use Rattle.decoder.specs.declared.state.Decoder.{Decoder}
use Rattle.settling_laws.specs.Calls.{frame, framed_by, reply, FitState}
use Rattle.settling_laws.proofs.Judging.{OutcomeOf}
use Rattle.replaying.specs.Frames.{columns_of}
use Rattle.replaying.specs.declared.frame.Columns.{Columns}
use Rattle.replay_laws.specs.Whole.{Setting, shown_by, zeros, given, shown_of}
use Rattle.replay_laws.specs.Made.{shown_plan}
use Rattle.replay_laws.proofs.OneCall.{outcome_of_lem, by_outcome}

pub as_shown : (setting : Setting) (d : Decoder) → FitState setting.config d → (side : SideInfo) (c : Columns) →
    shown_of setting d (Some side) ≡ Some c →
    framed_by d (given setting side) ≡ done (accepted d (shown_plan setting c) setting.numerators setting.denominators (zeros setting))
unfolding framed
as_shown setting d fit side c e =
    ap (framed_with d setting.numerators setting.denominators (zeros setting)) (by_outcome setting d fit side) ∙
    go (outcome_of_lem setting side) (ap (λ (v : Result Plan Refusal). shown_by v side.pitch settled) (sym (by_outcome setting d fit side)) ∙ e)
  where
    settled : Bool
    settled = (reply d (frame (given setting side))).settled

    go : (o : OutcomeOf setting.config (given setting side)) →
        let v = verdict setting.config setting.numerators setting.denominators side (zeros setting) d.registers.marks o in
        shown_by v side.pitch settled ≡ Some c →
        framed_with d setting.numerators setting.denominators (zeros setting) v ≡
        done (accepted d (shown_plan setting c) setting.numerators setting.denominators (zeros setting))
    go (declined why l h) q = cc
    go (passed lag p) q =
        let same : columns_of (plan_of d.registers.marks setting.config side lag) side.pitch settled ≡ c = cc in
        ap (λ (x : Columns). done (accepted d (shown_plan setting x) setting.numerators setting.denominators (zeros setting))) same
