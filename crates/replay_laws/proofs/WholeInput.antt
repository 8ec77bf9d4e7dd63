-- THE REPLAY IS THE DECODER'S. Whatever the input, at any rate and duration of the table, and whatever set of the right lengths with finite entries
-- the decoder is lent:
-- `as_the_decoder`: the listing without samples and coefficients is the replay that the decoder's definitions give, call by call.
-- `kept_of_the_decoder`: after any lines it keeps the decoder's marks.
-- `any_set`: the set does not show. `any_cuts`: nor do the cuts of the input. `one_piece`: the machine's text of an input in one piece is the replay.
use Prim.Native.Nat.{ℕ, ◌≤◌}
use mathlib.Core.Path.{◌≡◌, sym, ap, ◌∙◌}
use mathlib.Core.List.{List, [], ◌++◌}
use lib.Ieee.{Float}
use lib.ListN.{length}
use Rattle.std.proofs.Common.{Result}
use Rattle.control.specs.State.{cleared_marks}
use Rattle.decoder.specs.State.{cleared}
use Rattle.lines.specs.Listings.{Decided, after_lines, lines_from, rows_from, listing_of}
use Rattle.lines.specs.Machine.{Call, begun, called_all, whole_text, serving}
use Rattle.lines.proofs.WholeInput as whole
use Rattle.lines.specs.declared.field.Malformed.{Malformed}
use Rattle.entries.proofs.LongLines.{first_bytes}
use Rattle.entries.specs.declared.line.Entry.{Entry}
use Rattle.replaying.specs.Steps.{stepped_line}
use Rattle.replay_rows.specs.Rows.{row_text}
use Rattle.replay_listing.specs.ByMarks.{header, replayed_as, replayed_line, marks_rules_at, marks_rules}
use Rattle.replay_listing.specs.Machine as machine
use Rattle.replay_listing.specs.declared.machine.Replay.{Replay}
use Rattle.replay_laws.specs.Whole.{Setting, Usable, at48000, first, replay_rules, replay}
use Rattle.replay_laws.specs.Made.{marks_of, marks_rules_of}
use Rattle.replay_laws.proofs.OneCall.{first_fit}
use Rattle.replay_laws.proofs.OneLine.{same_rows, same_states}

-- a line's first 32 bytes are answered as the line is
pub decided : (rate duration : ℕ) → Decided (marks_rules_at rate duration)
unfolding replayed_line
decided rate duration =
    record {
      moves = λ s line. ap (λ (l : Result Entry Malformed). (replayed_as s.line (stepped_line s.last s.marks l)).replay) (first_bytes line);
      answers = λ s line. ap (λ (l : Result Entry Malformed). row_text s.line (stepped_line s.last s.marks l).row) (first_bytes line);
    }

module _ (setting : Setting) (usable : Usable setting) where
  -- both begin alike
  first_marks : marks_of (first setting) ≡ (marks_rules_of setting).first
  unfolding cleared cleared_marks
  first_marks = rw usable.known

  pub as_the_decoder : (input : List ℕ) → listing_of (marks_rules_of setting) input ≡ replay setting input
  as_the_decoder input =
      let lines = lines_from [] input in
      ap (λ (p : Replay). header ++ (rows_from (marks_rules_of setting) p lines ++ [])) (sym first_marks) ∙
      ap (λ (t : List ℕ). header ++ (t ++ [])) (same_rows setting usable (first setting) (first_fit setting usable) lines)

  pub kept_of_the_decoder : (ls : List (List ℕ)) → after_lines (marks_rules_of setting) (marks_rules_of setting).first ls ≡ marks_of (after_lines (replay_rules setting) (first setting) ls)
  kept_of_the_decoder ls =
      ap (λ (p : Replay). after_lines (marks_rules_of setting) p ls) (sym first_marks) ∙
      same_states setting usable (first setting) (first_fit setting usable) ls

  -- Calls are fed what is left of the input, each offered any number of its bytes and any buffer. If at least as many of them as the
  -- input has bytes are offered one and have 169 bytes of space, all is taken, and what was written is the replay of the whole input.
  pub any_cuts : (input : List ℕ) (cs : List Call) → length input ≤ serving (marks_rules_of setting) cs →
      whole_text (marks_rules_of setting) (called_all (marks_rules_of setting) (begun (marks_rules_of setting) input) cs) ≡ replay setting input
  any_cuts input cs l = whole.any_cuts (marks_rules_of setting) (decided setting.rate setting.duration) input cs l ∙ as_the_decoder input

pub any_set : (a b : Setting) → Usable a → Usable b → a.rate ≡ b.rate → a.duration ≡ b.duration → (input : List ℕ) → replay a input ≡ replay b input
any_set a b p q e f input = sym (as_the_decoder a p input) ∙ rw (e, f) (as_the_decoder b q input)

-- the machine's text in one piece is the replay at 48000 Hz and 10 ms, with any set
pub one_piece : (numerators denominators : List Float) → Usable (at48000 numerators denominators) → (input : List ℕ) →
    header ++ machine.text machine.begun input ++ machine.last_text (machine.after machine.begun input) ≡ replay (at48000 numerators denominators) input
one_piece numerators denominators usable input =
    whole.one_piece marks_rules (decided 48000 10000) input ∙ as_the_decoder (at48000 numerators denominators) usable input
