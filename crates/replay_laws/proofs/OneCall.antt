-- One call of the decoder that a replay makes, beside what the replay without samples and coefficients does: the same row, and the same
-- marks.
use Prim.Native.Nat.{ℕ}
use mathlib.Core.Path.{◌≡◌, refl, sym, ap, ◌∙◌, subst}
use mathlib.Core.Bool.{true}
use borrow.Author.Tests.{eq-eqb}
use mathlib.Core.List.{List}
use lib.Ieee.{Float}
use lib.ListN.{length, length-replicate, replicate}
use Rattle.std.proofs.Common.{Option, Some, None, Result, Ok, Err}
use Rattle.floats.specs.Single.{0·0, all_in_range}
use Rattle.rates.specs.Table.{find}
use Rattle.rates.specs.declared.answer.Refusal.{Refusal}
use Rattle.rates.specs.declared.config.Lc3Config.{Lc3Config}
use Rattle.control.specs.State.{fit_config}
use Rattle.judging.specs.Judge.{set_finite, judged_side, ranged, judged}
use Rattle.control.specs.Next.{next_marks}
use Rattle.judging.specs.declared.plan.SideInfo.{SideInfo}
use Rattle.judging.proofs.Judging.{declined, passed, verdict, outcome}
use Rattle.judging.specs.declared.plan.Plan.{Plan}
use Rattle.decoder.specs.State.{fit_decoder}
use Rattle.decoder.specs.Frame.{accepted, framed_with, framed}
use Rattle.decoder.specs.declared.state.Decoder.{Decoder}
use Rattle.on_ring.proofs.RingFits.{ring_fits_lem}
use Rattle.settling_laws.specs.Calls.{after, FitState}
use Rattle.settling_laws.proofs.Silence.{range_zeros}
use Rattle.settling_laws.proofs.Judging.{OutcomeOf}
use Rattle.settling_laws.proofs.FitStates.{cleared_fit, lost_done, after_lost, unsettled_fit, framed_fit}
use Rattle.telling.specs.Told.{judged_fitted}
use Rattle.replaying.specs.Frames.{answered_row, judged_marks, played_by, lost_with, lost_marks, replayed_content}
use Rattle.replay_laws.specs.Whole.{Setting, Usable, at48000, first, shown_by, zeros, given, call_of, called_row}

-- the decoder before the first line has the setting's configuration
pub first_fit : (setting : Setting) → Usable setting → FitState setting.config (first setting).decoder
first_fit setting usable = rw usable.known (cleared_fit setting.rate setting.duration setting.config usable.known)

-- the setting of the listing is usable with four rows of 11 and four of 13, each entry finite
pub usable_at_48000 : (numerators denominators : List Float) → length numerators ≡ 44 → length denominators ≡ 52 →
    set_finite numerators denominators ≡ true → Usable (at48000 numerators denominators)
unfolding find
usable_at_48000 numerators denominators n m f = record { known = refl; counts = rw (n, m); finite = f }

-- samples of 0.0 are in range
in_range_lem : (n : ℕ) (v : Result Plan Refusal) → ranged (all_in_range (replicate n 0·0)) v ≡ v
in_range_lem n (Err refusal) = refl
in_range_lem n (Ok plan) = rw (range_zeros n)

-- the decoder's verdict on a frame of a replay goes by what judging comes to
abbrev pub outcome_of_lem : (setting : Setting) (side : SideInfo) → OutcomeOf setting.config (given setting side)
outcome_of_lem setting side = (outcome setting.config setting.numerators setting.denominators side (zeros setting)).0

pub by_outcome : (setting : Setting) (d : Decoder) → FitState setting.config d → (side : SideInfo) →
    judged d.registers.marks (fit_decoder d) setting.numerators setting.denominators side (zeros setting) ≡
    verdict setting.config setting.numerators setting.denominators side (zeros setting) d.registers.marks (outcome_of_lem setting side)
by_outcome setting d fit side =
    ap (λ (k : Result Lc3Config Refusal). judged d.registers.marks k setting.numerators setting.denominators side (zeros setting)) fit.found ∙
    (outcome setting.config setting.numerators setting.denominators side (zeros setting)).1 d.registers.marks

module _ (setting : Setting) (usable : Usable setting) (d : Decoder) (fit : FitState setting.config d) where
  -- its marks are fit
  fit_marks : fit_config d.registers.marks ≡ Ok setting.config
  fit_marks = let f = (ring_fits_lem d.registers setting.config fit.found).0 in rw (f.config, f.lag, f.run)

  -- so the verdict by the marks is the decoder's on the side information
  pub marks_verdict : (side : SideInfo) → judged_marks d.registers.marks side ≡ judged_side d.registers.marks setting.config side
  unfolding judged_marks
  marks_verdict side = ap (judged_fitted d.registers.marks side) fit_marks

  -- the set and the samples are good, so the verdict is that of the side information
  pub same_verdict : (side : SideInfo) →
      judged d.registers.marks (fit_decoder d) setting.numerators setting.denominators side (zeros setting) ≡ judged_marks d.registers.marks side
  unfolding judged
  same_verdict side =
      rw (fit.found, usable.counts, usable.finite, length-replicate setting.config.nf 0·0, eq-eqb setting.config.nf setting.config.nf refl, marks_verdict side)
      (in_range_lem setting.config.nf (judged_side d.registers.marks setting.config side))

  -- what a frame leads to, by its verdict
  record Same (side : SideInfo) (v : Result Plan Refusal) : Type 0 where
    row :
        answered_row (framed_with d setting.numerators setting.denominators (zeros setting) v).0.answer
        (shown_by v side.pitch (framed_with d setting.numerators setting.denominators (zeros setting) v).0.settled) ≡
        (played_by d.registers.marks side.pitch v).row
    marks : (framed_with d setting.numerators setting.denominators (zeros setting) v).0.decoder.registers.marks ≡ (played_by d.registers.marks side.pitch v).marks

  -- the same whatever the verdict is
  same_outcome : (side : SideInfo) (o : OutcomeOf setting.config (given setting side)) →
      Same side (verdict setting.config setting.numerators setting.denominators side (zeros setting) d.registers.marks o)
  unfolding accepted next_marks
  same_outcome side (declined why l h) = record { row = refl; marks = refl }
  same_outcome side (passed lag p) = record { row = refl; marks = refl }

  same_judged : (side : SideInfo) → Same side (judged_marks d.registers.marks side)
  same_judged side = subst (Same side) (sym (by_outcome setting d fit side) ∙ same_verdict side) (same_outcome side (outcome_of_lem setting side))

  -- a call that a replay makes
  pub record SameCall (content : Option SideInfo) : Type 0 where
    pub row : called_row setting d content ≡ (replayed_content d.registers.marks content).row
    pub marks : (after d (call_of setting content)).registers.marks ≡ (replayed_content d.registers.marks content).marks
    pub stays_fit : FitState setting.config (after d (call_of setting content))

  pub same_call : (content : Option SideInfo) → SameCall content
  unfolding framed lost_marks
  same_call None =
      record {
        row = rw (lost_done setting.config d fit) (ap (λ (k : Result Lc3Config Refusal). (lost_with d.registers.marks k).row) (sym fit_marks));
        marks = rw (after_lost setting.config d fit) (ap (λ (k : Result Lc3Config Refusal). (lost_with d.registers.marks k).marks) (sym fit_marks));
        stays_fit = rw (after_lost setting.config d fit) (unsettled_fit setting.config d fit);
      }
  same_call (Some side) =
      let same = same_judged side in
      record {
        row = rw (same_verdict side) same.row;
        marks =
            ap (λ (v : Result Plan Refusal). (framed_with d setting.numerators setting.denominators (zeros setting) v).0.decoder.registers.marks) (same_verdict side) ∙
            same.marks;
        stays_fit = framed_fit setting.config (given setting side) d fit;
      }
