-- A line of the listing: which row answers it, and the row's text.
use Rattle.lag.specs.declared.rescale.RoundedLag.{RoundedLag}
use Rattle.std.specs.Prelude.{ℕ, ◌+◌, cond, List, ◌++◌, ltb, length, take, drop, Option, Some, None, Result, Ok, Err}
use Rattle.rates.specs.Answers.{Answer, number_of}
use Rattle.rates.specs.declared.answer.Refusal.{Refusal}
use Rattle.rates.specs.declared.answer.Refusal.TheVariants.{UnknownRate, IndexTooLarge, MalformedLine}
use Rattle.rates.specs.Table.{row_of}
use Rattle.rates.specs.declared.table.Rate.{Rate}
use Rattle.lag.specs.Lag.{looked_up_lag}
use Rattle.lines.specs.Fields.{tab_at, field_of}
use Rattle.lines.specs.declared.field.Malformed.{Malformed}
use Rattle.cells.specs.Texts.{cell, signed_cell, dash_cell}

-- a row is refused, or shows a lag, or none
abbrev pub Row : Type 0
Row = Result (Option RoundedLag) Refusal

-- a refused line shows dashes
abbrev pub refused_row : Refusal → Row
refused_row refusal = Err refusal

abbrev pub lag_found : Option RoundedLag → Row
lag_found (Some l) = Ok (Some l)
lag_found None = refused_row IndexTooLarge

abbrev pub lag_row : Rate → ℕ → Row
lag_row fs index = lag_found (looked_up_lag fs index)

-- a dash for the index is an absent pitch, and has no lag
abbrev pub absent_row : Option Rate → Row
absent_row (Some fs) = Ok None
absent_row None = refused_row UnknownRate

abbrev pub index_row : Option Rate → ℕ → Row
index_row (Some fs) index = lag_row fs index
index_row None index = refused_row UnknownRate

-- a line checks 10, 1, 7
abbrev pub at_rate : ℕ → Result (Option ℕ) Malformed → Row
at_rate hz (Ok None) = absent_row (row_of hz)
at_rate hz (Ok (Some index)) = index_row (row_of hz) index
at_rate hz (Err e) = refused_row MalformedLine

-- a dash for the rate means 48000
abbrev pub looked_up : Result (Option ℕ) Malformed → Result (Option ℕ) Malformed → Row
looked_up (Ok None) index = at_rate 48000 index
looked_up (Ok (Some hz)) index = at_rate hz index
looked_up (Err e) index = refused_row MalformedLine

-- both fields are needed: what stands before the first tab, and what stands after it
unfoldable pub answer_to : List ℕ → Row
answer_to line =
    cond (ltb (tab_at line) (length line))
    (looked_up (field_of 5 (take (tab_at line) line)) (field_of 5 (drop (tab_at line + 1) line)))
    (refused_row MalformedLine)

-- the lag of a row that is not refused, and the answer of any
abbrev pub shown_of : Row → Option RoundedLag
shown_of (Ok shown) = shown
shown_of (Err refusal) = None

abbrev pub answer_of : Row → Answer
answer_of (Ok shown) = Ok tt
answer_of (Err refusal) = Err refusal

-- whole, quarter, rounding
abbrev pub shown_text : Option RoundedLag → List ℕ
shown_text None = dash_cell 9 ++ dash_cell 9 ++ dash_cell 9
shown_text (Some l) = cell l.lag.whole 9 ++ cell l.lag.quarter 9 ++ signed_cell l.rounding 9

-- line, whole, quarter, rounding, answer
abbrev pub text_of : ℕ → Answer → Option RoundedLag → List ℕ
text_of line answer shown = cell line 9 ++ shown_text shown ++ cell (number_of answer) 10

abbrev pub row_text : ℕ → Row → List ℕ
row_text line row = text_of line (answer_of row) (shown_of row)
