-- The replay without samples and coefficients, line by line. That it lists what the decoder does is proved in `replayed`.
use Rattle.std.specs.Prelude.{ℕ, None, List, [], ◌∷◌}
use Rattle.control.specs.State.{cleared_marks}
use Rattle.lines.specs.Listings.{Rules, RowRules, rules_of, next_number}
use Rattle.replaying.specs.Steps.{stepped}
use Rattle.replaying.specs.declared.step.Stepped.{Stepped}
use Rattle.replay_rows.specs.Rows.{row_text}
use Rattle.replay_listing.specs.declared.machine.Replay.{Replay}
use Rattle.replay_listing.specs.declared.machine.Replayed.{Replayed}

-- line, case, whole, quarter, row, settled, rounding, answer
abbrev pub header : List ℕ
header =
    108 ∷ 105 ∷ 110 ∷ 101 ∷ 9 ∷
    99 ∷ 97 ∷ 115 ∷ 101 ∷ 9 ∷
    119 ∷ 104 ∷ 111 ∷ 108 ∷ 101 ∷ 9 ∷
    113 ∷ 117 ∷ 97 ∷ 114 ∷ 116 ∷ 101 ∷ 114 ∷ 9 ∷
    114 ∷ 111 ∷ 119 ∷ 9 ∷
    115 ∷ 101 ∷ 116 ∷ 116 ∷ 108 ∷ 101 ∷ 100 ∷ 9 ∷
    114 ∷ 111 ∷ 117 ∷ 110 ∷ 100 ∷ 105 ∷ 110 ∷ 103 ∷ 9 ∷
    97 ∷ 110 ∷ 115 ∷ 119 ∷ 101 ∷ 114 ∷ 10 ∷ []

-- before the first line: no frame has counted, and the decoder is fresh
abbrev pub first_at : ℕ → ℕ → Replay
first_at rate duration = record { line = 1; last = None; marks = cleared_marks rate duration }

abbrev pub replayed_as : ℕ → Stepped → Replayed
replayed_as line s = record { replay = record { line = next_number line; last = s.last; marks = s.marks }; row = s.row }

-- a line: what is known after it, and its row
unfoldable pub replayed_line : Replay → List ℕ → Replayed
replayed_line p line = replayed_as p.line (stepped p.last p.marks line)

-- A row has seven cells of at most 21 bytes and one, of the rounding, of at most 22.
abbrev pub marks_rows_at : ℕ → ℕ → RowRules Replay
marks_rows_at rate duration =
    record {
      header = header;
      first = first_at rate duration;
      moved = λ p line. (replayed_line p line).replay;
      row = λ p line. row_text p.line (replayed_line p line).row;
      space = 169;
    }

-- every line is listed, and no text follows the last row
abbrev pub marks_rules_at : ℕ → ℕ → Rules
marks_rules_at rate duration = rules_of (marks_rows_at rate duration)

-- the listing is of 48000 Hz and 10 ms
abbrev pub marks_rows : RowRules Replay
marks_rows = marks_rows_at 48000 10000

abbrev pub marks_rules : Rules
marks_rules = rules_of marks_rows
