-- REFUSALS. At any state between two lines whose decoder is fit:
-- `only_these`: a line is answered 0, 6, 7, 10 or 11.
-- `refused_changes_nothing`: a refused line leaves the decoder as it was; `skipped_changes_nothing`: one that is answered 10 or 11 leaves the last
-- frame number too; `others_count`: after any other line the last frame number is the line's; `numbers_end`: after frame 999999999 every line that is
-- not malformed is answered 11.
use Prim.Native.Nat.{ℕ, ◌≤◌}
use mathlib.Core.Path.{◌≡◌, refl, ap, subst, ◌∙◌}
use mathlib.Core.Bool.{Bool, true, false, cond, ◌||◌}
use mathlib.Core.List.{List}
use native.Mathlib.Omega.{arith}
use borrow.Author.Tests.{ne_eqb}
use lib.Dec.{eqb, leb}
use Rattle.std.proofs.Common.{Option, Some, None, Result, Ok, Err}
use Rattle.rates.specs.Answers.{number_of, Answer}
use Rattle.rates.specs.declared.answer.Refusal.TheVariants.{WrongFrameNumber, TooManyBits}
use Rattle.rates.specs.declared.answer.Refusal.{Refusal}
use Rattle.lag.specs.declared.rescale.Lag.{Lag}
use Rattle.judging.specs.Pitch.{lag_for}
use Rattle.judging.specs.Judge.{unless, lag_judged, judged_side, judged}
use Rattle.judging.specs.declared.plan.SideInfo.{SideInfo}
use Rattle.judging.specs.declared.plan.Plan.{Plan}
use Rattle.decoder.specs.State.{fit_decoder}
use Rattle.decoder.specs.Frame.{framed_with, framed}
use Rattle.decoder.specs.declared.state.Decoder.{Decoder}
use Rattle.settling_laws.specs.Calls.{after, reply, FitState}
use Rattle.settling_laws.proofs.FitStates.{lost_done}
use Rattle.settling_laws.proofs.Following.{answer_small}
use Rattle.lines.specs.declared.field.Malformed.{Malformed}
use Rattle.entries.specs.Lines.{line_read}
use Rattle.entries.specs.declared.line.Entry.{Entry}
use Rattle.entries.proofs.FrameNumbers.{frame_below}
use Rattle.replaying.specs.Frames.{answered_row, answer_of}
use Rattle.replaying.specs.Steps.{follows}
use Rattle.replaying.specs.declared.frame.Columns.{Columns}
use Rattle.replay_laws.specs.Whole.{Setting, Usable, Between, skipped_line, given, call_of, shown_of, called_row, counted_line, moved_by, row_of}
use Rattle.replay_laws.proofs.OneCall.{same_verdict, marks_verdict}

-- a row's answer is the one that it was made of
row_answer : (a : Answer) (shown : Option Columns) → answer_of (answered_row a shown) ≡ a
row_answer (Ok tt) shown = refl
row_answer (Err refusal) shown = refl

-- so the row of a line that counts has the answer of its call
called_answer : (setting : Setting) (d : Decoder) (content : Option SideInfo) → answer_of (called_row setting d content) ≡ (reply d (call_of setting content)).answer
called_answer setting d content = row_answer (reply d (call_of setting content)).answer (shown_of setting d content)

abbrev pub among : ℕ → Bool
among n = eqb n 0 || eqb n 6 || eqb n 7 || eqb n 10 || eqb n 11

module _ (setting : Setting) (usable : Usable setting) (d : Decoder) (fit : FitState setting.config d) where
  -- the call of a line that counts is answered 0, 6 or 7
  called_among : (content : Option SideInfo) → among (number_of (reply d (call_of setting content)).answer) ≡ true
  unfolding framed judged_side
  called_among None = rw (lost_done setting.config d fit)
  called_among (Some side) =
      ap (λ (v : Result Plan Refusal). among (number_of (framed_with d setting.numerators setting.denominators (given setting side).samples v).0.answer))
      (same_verdict setting usable d fit side ∙ marks_verdict setting usable d fit side) ∙
      go (leb side.nbits 3200) (lag_for setting.config.fs side.pitch)
    where
      go : (b : Bool) (l : Option Lag) →
          let v = unless b TooManyBits (lag_judged d.registers.marks setting.config side l) in
          among (number_of (framed_with d setting.numerators setting.denominators (given setting side).samples v).0.answer) ≡ true
      go false l = refl
      go true None = refl
      go true (Some lag) = refl

  -- and changes nothing where it is not answered 0
  called_refused : (content : Option SideInfo) → 1 ≤ number_of (reply d (call_of setting content)).answer → after d (call_of setting content) ≡ d
  unfolding framed
  called_refused None some = absurd (omega (arith, ap (λ r. number_of r.answer) (lost_done setting.config d fit)))
  called_refused (Some side) some =
      go (judged d.registers.marks (fit_decoder d) setting.numerators setting.denominators side (given setting side).samples) some
    where
      go : (v : Result Plan Refusal) → 1 ≤ number_of (framed_with d setting.numerators setting.denominators (given setting side).samples v).0.answer →
          (framed_with d setting.numerators setting.denominators (given setting side).samples v).0.decoder ≡ d
      go (Err refusal) h = refl
      go (Ok plan) h = absurd (omega arith)

module _ (setting : Setting) (usable : Usable setting) (s : Between) (fit : FitState setting.config s.decoder) where
  pub only_these : (l : Result Entry Malformed) → among (number_of (answer_of (row_of setting s l))) ≡ true
  only_these (Err e) = refl
  only_these (Ok e) = go (follows s.last e.frame)
    where
      go : (b : Bool) → among (number_of (answer_of (cond b (called_row setting s.decoder e.content) (Err WrongFrameNumber)))) ≡ true
      go true = rw (called_answer setting s.decoder e.content) (called_among setting usable s.decoder fit e.content)
      go false = refl

  pub refused_changes_nothing : (l : Result Entry Malformed) → 1 ≤ number_of (answer_of (row_of setting s l)) → (moved_by setting s l).decoder ≡ s.decoder
  refused_changes_nothing (Err e) h = refl
  refused_changes_nothing (Ok e) h = go (follows s.last e.frame) h
    where
      go : (b : Bool) → 1 ≤ number_of (answer_of (cond b (called_row setting s.decoder e.content) (Err WrongFrameNumber))) →
          (cond b (counted_line setting s e.frame e.content) (skipped_line s)).decoder ≡ s.decoder
      go true k = called_refused setting usable s.decoder fit e.content (subst (λ (a : Answer). 1 ≤ number_of a) (called_answer setting s.decoder e.content) k)
      go false k = refl

  pub skipped_changes_nothing : (l : Result Entry Malformed) → 10 ≤ number_of (answer_of (row_of setting s l)) → moved_by setting s l ≡ skipped_line s
  skipped_changes_nothing (Err e) h = refl
  skipped_changes_nothing (Ok e) h = go (follows s.last e.frame) h
    where
      go : (b : Bool) → 10 ≤ number_of (answer_of (cond b (called_row setting s.decoder e.content) (Err WrongFrameNumber))) →
          cond b (counted_line setting s e.frame e.content) (skipped_line s) ≡ skipped_line s
      go true k = absurd (omega (arith, answer_small setting.config s.decoder fit (call_of setting e.content), ap number_of (called_answer setting s.decoder e.content)))
      go false k = refl

  pub others_count : (e : Entry) → number_of (answer_of (row_of setting s (Ok e))) ≤ 9 → (moved_by setting s (Ok e)).last ≡ Some e.frame
  others_count e h = go (follows s.last e.frame) h
    where
      go : (b : Bool) → number_of (answer_of (cond b (called_row setting s.decoder e.content) (Err WrongFrameNumber))) ≤ 9 →
          (cond b (counted_line setting s e.frame e.content) (skipped_line s)).last ≡ Some e.frame
      go true k = refl
      go false k = absurd (omega arith)

  -- after frame 999999999 there is no number that follows
  pub numbers_end : s.last ≡ Some 999999999 → (line : List ℕ) (e : Entry) → line_read line ≡ Ok e →
      row_of setting s (line_read line) ≡ Err WrongFrameNumber
  numbers_end last line e h = rw (h, last, ne_eqb e.frame 1000000000 (λ q. omega (arith, frame_below line e h)))
