-- A row of the replay as text.
use Rattle.lag.specs.declared.gain.Gain.{Gain}
use Rattle.std.specs.Prelude.{ℕ, ℤ, Bool, true, false, List, ◌++◌, Option, Some, None}
use Rattle.rates.specs.Answers.{Answer, number_of}
use Rattle.lag.specs.declared.rescale.Lag.{Lag}
use Rattle.telling.specs.Told.{case_number}
use Rattle.cells.specs.Texts.{cell, signed_cell, dash_cell}
use Rattle.replaying.specs.Frames.{Row, shown_of, answer_of}
use Rattle.replaying.specs.declared.frame.Columns.{Columns}

-- settled is 0 or 1
abbrev pub flag_number : Bool → ℕ
flag_number false = 0
flag_number true = 1

-- whole and quarter; dashes for an inactive frame
abbrev pub lag_text : Bool → Lag → List ℕ
lag_text false lag = dash_cell 9 ++ dash_cell 9
lag_text true lag = cell lag.whole 9 ++ cell lag.quarter 9

-- the row; a dash for an inactive frame, and where the gain is off
abbrev pub gain_text : Bool → Option Gain → List ℕ
gain_text false gain = dash_cell 9
gain_text true None = dash_cell 9
gain_text true (Some gain) = cell gain.row 9

-- how the lag was rounded; a dash where no lag is shown
abbrev pub rounding_text : Option ℤ → List ℕ
rounding_text None = dash_cell 9
rounding_text (Some d) = signed_cell d 9

-- case, whole, quarter, row, settled, rounding
abbrev pub columns_text : Columns → List ℕ
columns_text c =
    cell (case_number c.told.transition) 9 ++ lag_text c.told.active c.told.lag ++ gain_text c.told.active c.told.gain ++
    cell (flag_number c.settled) 9 ++ rounding_text c.told.rounding

abbrev pub dashes_text : List ℕ
dashes_text = dash_cell 9 ++ dash_cell 9 ++ dash_cell 9 ++ dash_cell 9 ++ dash_cell 9 ++ dash_cell 9

abbrev pub shown_text : Option Columns → List ℕ
shown_text None = dashes_text
shown_text (Some c) = columns_text c

-- line, case, whole, quarter, row, settled, rounding, answer
abbrev pub text_of : ℕ → Answer → Option Columns → List ℕ
text_of line answer shown = cell line 9 ++ shown_text shown ++ cell (number_of answer) 10

abbrev pub row_text : ℕ → Row → List ℕ
row_text line row = text_of line (answer_of row) (shown_of row)
