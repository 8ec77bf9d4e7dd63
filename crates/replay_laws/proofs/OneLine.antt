-- One line, and any number of them: the replay without samples and coefficients shows what the replay by the decoder shows, and keeps what that keeps.
use Prim.Native.Nat.{ℕ}
use mathlib.Core.Path.{◌≡◌, refl, sym, ap, ◌∙◌}
use mathlib.Core.Bool.{Bool, true, false, cond}
use mathlib.Core.List.{List, [], ◌∷◌, ◌++◌}
use Rattle.std.proofs.Common.{Result, Ok, Err}
use Rattle.rates.specs.declared.answer.Refusal.TheVariants.{WrongFrameNumber}
use Rattle.control.specs.declared.marks.Marks.{Marks}
use Rattle.settling_laws.specs.Calls.{FitState}
use Rattle.lines.specs.Listings.{after_lines, rows_from}
use Rattle.lines.specs.declared.field.Malformed.{Malformed}
use Rattle.entries.specs.Lines.{line_read}
use Rattle.entries.specs.declared.line.Entry.{Entry}
use Rattle.replaying.specs.Frames.{Row, replayed_content}
use Rattle.replaying.specs.Steps.{follows, skipped, counted, stepped_entry, stepped_line}
use Rattle.replay_rows.specs.Rows.{row_text}
use Rattle.replay_listing.specs.declared.machine.Replay.{Replay}
use Rattle.replay_listing.specs.ByMarks.{replayed_as, replayed_line}
use Rattle.replay_laws.specs.Whole.{Setting, Usable, Between, skipped_line, called_row, counted_line, moved_by, row_of, replay_rules}
use Rattle.replay_laws.specs.Made.{marks_of, marks_rules_of}
use Rattle.replay_laws.proofs.OneCall.{SameCall, same_call}

module _ (setting : Setting) (usable : Usable setting) where
  -- a line, by what it says
  pub record SameLine (s : Between) (l : Result Entry Malformed) : Type 0 where
    pub row : (stepped_line s.last s.decoder.registers.marks l).row ≡ row_of setting s l
    pub kept : (replayed_as s.line (stepped_line s.last s.decoder.registers.marks l)).replay ≡ marks_of (moved_by setting s l)
    pub stays_fit : FitState setting.config (moved_by setting s l).decoder

  pub same_line : (s : Between) → FitState setting.config s.decoder → (l : Result Entry Malformed) → SameLine s l
  unfolding stepped_entry
  same_line s fit (Err e) = record { row = refl; kept = refl; stays_fit = fit }
  same_line s fit (Ok e) = let b = follows s.last e.frame in record { row = row b; kept = kept b; stays_fit = stays_fit b }
    where
      r : Marks
      r = s.decoder.registers.marks

      called : SameCall setting usable s.decoder fit e.content
      called = same_call setting usable s.decoder fit e.content

      row : (b : Bool) →
          (cond b (counted e.frame (replayed_content r e.content)) (skipped s.last r WrongFrameNumber)).row ≡
          cond b (called_row setting s.decoder e.content) (Err WrongFrameNumber)
      row true = sym called.row
      row false = refl

      kept : (b : Bool) →
          (replayed_as s.line (cond b (counted e.frame (replayed_content r e.content)) (skipped s.last r WrongFrameNumber))).replay ≡
          marks_of (cond b (counted_line setting s e.frame e.content) (skipped_line s))
      kept true = rw (← called.marks)
      kept false = refl

      stays_fit : (b : Bool) → FitState setting.config (cond b (counted_line setting s e.frame e.content) (skipped_line s)).decoder
      stays_fit true = called.stays_fit
      stays_fit false = fit

  -- any number of lines
  pub same_rows : (s : Between) → FitState setting.config s.decoder → (ls : List (List ℕ)) → rows_from (marks_rules_of setting) (marks_of s) ls ≡ rows_from (replay_rules setting) s ls
  unfolding rows_from replayed_line
  same_rows s fit [] = refl
  same_rows s fit (line ∷ rest) =
      let same = same_line s fit (line_read line) in
      let next = moved_by setting s (line_read line) in
      let shown = row_text s.line (row_of setting s (line_read line)) in
      ap (λ (x : Row). row_text s.line x ++ rows_from (marks_rules_of setting) (replayed_line (marks_of s) line).replay rest) same.row ∙
      ap (λ (p : Replay). shown ++ rows_from (marks_rules_of setting) p rest) same.kept ∙ ap (λ (t : List ℕ). shown ++ t) (same_rows next same.stays_fit rest)

  pub same_states : (s : Between) → FitState setting.config s.decoder → (ls : List (List ℕ)) →
      after_lines (marks_rules_of setting) (marks_of s) ls ≡ marks_of (after_lines (replay_rules setting) s ls)
  unfolding after_lines replayed_line
  same_states s fit [] = refl
  same_states s fit (line ∷ rest) =
      let same = same_line s fit (line_read line) in
      ap (λ (p : Replay). after_lines (marks_rules_of setting) p rest) same.kept ∙ same_states (moved_by setting s (line_read line)) same.stays_fit rest

  pub lines_fit : (s : Between) → FitState setting.config s.decoder → (ls : List (List ℕ)) → FitState setting.config (after_lines (replay_rules setting) s ls).decoder
  unfolding after_lines
  lines_fit s fit [] = fit
  lines_fit s fit (line ∷ rest) = lines_fit (moved_by setting s (line_read line)) (same_line s fit (line_read line)).stays_fit rest
