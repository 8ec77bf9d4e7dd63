-- A line of a recording: a frame's number, a tab, and the word `lost` or the frame's side information.
use Rattle.std.specs.Prelude.{ℕ, Bool, cond, ◌&&◌, List, eqb, length, get_or, Some, None, Result, Ok, Err}
use Rattle.judging.specs.declared.plan.SideInfo.{SideInfo}
use Rattle.lines.specs.Fields.{has_tab, before_tab, after_tab, malformed, number_of}
use Rattle.lines.specs.declared.field.Malformed.{Malformed}
use Rattle.entries.specs.Sides.{side_read}
use Rattle.entries.specs.declared.line.Entry.{Entry}

-- the word `lost`
abbrev pub is_lost : List ℕ → Bool
is_lost s = eqb (length s) 4 && (eqb (get_or s 0 0) 108 && (eqb (get_or s 1 0) 111 && (eqb (get_or s 2 0) 115 && eqb (get_or s 3 0) 116)))

abbrev pub framed : ℕ → Result SideInfo Malformed → Result Entry Malformed
framed frame (Err e) = malformed
framed frame (Ok side) = Ok (record { frame = frame; content = Some side })

-- what stands after the frame's number
unfoldable pub numbered : ℕ → List ℕ → Result Entry Malformed
numbered frame rest = cond (is_lost rest) (Ok (record { frame = frame; content = None })) (framed frame (side_read rest))

abbrev pub with_number : Result ℕ Malformed → List ℕ → Result Entry Malformed
with_number (Err e) rest = malformed
with_number (Ok frame) rest = numbered frame rest

-- the frame's number has 1 to 9 digits
unfoldable pub line_read : List ℕ → Result Entry Malformed
line_read line = cond (has_tab line) (with_number (number_of 9 (before_tab line)) (after_tab line)) malformed
