-- The listing, defined on the whole input as a list of bytes.
use Rattle.std.specs.Prelude.{ℕ, List, [], ◌∷◌}
use Rattle.lines.specs.Listings.{Rules, RowRules, rules_of, next_number, listing_of}
use Rattle.lag_rows.specs.Rows.{answer_to, row_text}
use Rattle.listing.specs.declared.machine.Known.{Known}

-- line, whole, quarter, rounding, answer
abbrev pub header : List ℕ
header =
    108 ∷ 105 ∷ 110 ∷ 101 ∷ 9 ∷ 119 ∷ 104 ∷ 111 ∷ 108 ∷ 101 ∷ 9 ∷
    113 ∷ 117 ∷ 97 ∷ 114 ∷ 116 ∷ 101 ∷ 114 ∷ 9 ∷
    114 ∷ 111 ∷ 117 ∷ 110 ∷ 100 ∷ 105 ∷ 110 ∷ 103 ∷ 9 ∷
    97 ∷ 110 ∷ 115 ∷ 119 ∷ 101 ∷ 114 ∷ 10 ∷ []

-- before the first line: it is line 1
abbrev pub first_known : Known
first_known = record { line = 1 }

-- Between two lines only the number of the next one is known. A row has four cells of at most 21 bytes and one, of the rounding, of at
-- most 22.
abbrev pub lag_rows : RowRules Known
lag_rows =
    record {
      header = header;
      first = first_known;
      moved = λ known line. record { line = next_number known.line };
      row = λ known line. row_text known.line (answer_to line);
      space = 106;
    }

-- every line is listed, and no text follows the last row
abbrev pub lag_rules : Rules
lag_rules = rules_of lag_rows

-- the header, and a row for each line
abbrev pub listing : List ℕ → List ℕ
listing input = listing_of lag_rules input
