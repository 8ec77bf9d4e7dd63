-- A line: 10 where it is malformed, then 11 where its number does not follow, and else what its content comes to.
use Rattle.std.specs.Prelude.{ℕ, ◌+◌, Bool, true, cond, List, eqb, Option, Some, None, Result, Ok, Err}
use Rattle.rates.specs.declared.answer.Refusal.{Refusal}
use Rattle.rates.specs.declared.answer.Refusal.TheVariants.{MalformedLine, WrongFrameNumber}
use Rattle.control.specs.declared.marks.Marks.{Marks}
use Rattle.lines.specs.declared.field.Malformed.{Malformed}
use Rattle.entries.specs.Lines.{line_read}
use Rattle.entries.specs.declared.line.Entry.{Entry}
use Rattle.replaying.specs.Frames.{dashed_row, replayed_content}
use Rattle.replaying.specs.declared.frame.Played.{Played}
use Rattle.replaying.specs.declared.step.Stepped.{Stepped}

-- the first frame number may be any; after that it is one above that of the last line that counted
abbrev pub follows : Option ℕ → ℕ → Bool
follows None frame = true
follows (Some before) frame = eqb frame (before + 1)

-- a line that is answered 10 or 11 does not count, and changes nothing
abbrev pub skipped : Option ℕ → Marks → Refusal → Stepped
skipped last r refusal = record { last = last; marks = r; row = dashed_row (Err refusal) }

-- any other line counts
abbrev pub counted : ℕ → Played → Stepped
counted frame f = record { last = Some frame; marks = f.marks; row = f.row }

unfoldable pub stepped_entry : Option ℕ → Marks → Entry → Stepped
stepped_entry last r e =
    cond (follows last e.frame) (counted e.frame (replayed_content r e.content)) (skipped last r WrongFrameNumber)

abbrev pub stepped_line : Option ℕ → Marks → Result Entry Malformed → Stepped
stepped_line last r (Err e) = skipped last r MalformedLine
stepped_line last r (Ok e) = stepped_entry last r e

abbrev pub stepped : Option ℕ → Marks → List ℕ → Stepped
stepped last r line = stepped_line last r (line_read line)
