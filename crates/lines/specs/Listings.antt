-- A listing, defined on the whole input as a list of bytes: a header, a row for each line, and a closing text.
use Rattle.std.specs.Prelude.{ℕ, ◌+◌, ◌%◌, ◌^◌, ◌≡◌, Bool, false, cond, List, [], ◌∷◌, ◌++◌, eqb, take}

-- What makes a listing: its header, the state before the first line, and what each line makes of a state:
-- the state before the next line, and the line's row. From a state that `stops` on no line is listed, and the text that closes
-- the listing is that of the last state. `space` is how many bytes any row fits.
pub record Rules : Type 1 where
  pub State : Type 0
  pub header : List ℕ
  pub first : State
  pub moved : State → List ℕ → State
  pub row : State → List ℕ → List ℕ
  pub stops : State → Bool
  pub closing : State → List ℕ
  pub space : ℕ

-- what makes a listing that stops nowhere and closes with no text, where `S` is what is known between two lines
pub record RowRules (S : Type 0) : Type 0 where
  pub header : List ℕ
  pub first : S
  pub moved : S → List ℕ → S
  pub row : S → List ℕ → List ℕ
  pub space : ℕ

abbrev pub rules_of : {S : Type 0} → RowRules S → Rules
rules_of {S} r =
    record {
      State = S;
      header = r.header;
      first = r.first;
      moved = r.moved;
      row = r.row;
      stops = λ s. false;
      closing = λ s. [];
      space = r.space;
    }

-- a line's first 32 bytes are answered as the line is
pub record Decided (L : Rules) : Type 0 where
  pub moves : (s : L.State) (line : List ℕ) → L.moved s (take 32 line) ≡ L.moved s line
  pub answers : (s : L.State) (line : List ℕ) → L.row s (take 32 line) ≡ L.row s line

-- what is left at the end of the input is a line too, unless it is empty
abbrev pub last_line : List ℕ → List (List ℕ)
last_line [] = []
last_line (b ∷ bs) = (b ∷ bs) ∷ []

-- the lines, each ended by a newline, where `line` has been read of the first
unfoldable pub lines_from : List ℕ → List ℕ → List (List ℕ)
lines_from line [] = last_line line
lines_from line (b ∷ bs) = cond (eqb b 10) (line ∷ lines_from [] bs) (lines_from (line ++ (b ∷ [])) bs)

-- lines are counted in 64 bits: after the largest number the count goes on at 0
abbrev pub next_number : ℕ → ℕ
next_number n = (n + 1) % 2 ^ 64

module _ (L : Rules) where
  -- a line makes a row and the next state; once the listing has stopped it makes no row, and the state stays
  abbrev pub row_at : L.State → List ℕ → List ℕ
  row_at s line = cond (L.stops s) [] (L.row s line)

  abbrev pub state_at : L.State → List ℕ → L.State
  state_at s line = cond (L.stops s) s (L.moved s line)

  -- the state after some lines, in their order
  unfoldable pub after_lines : L.State → List (List ℕ) → L.State
  after_lines s [] = s
  after_lines s (line ∷ rest) = after_lines (state_at s line) rest

  -- their rows
  unfoldable pub rows_from : L.State → List (List ℕ) → List ℕ
  rows_from s [] = []
  rows_from s (line ∷ rest) = row_at s line ++ rows_from (state_at s line) rest

  -- their rows, and the text that closes the listing after them
  abbrev pub listed_from : L.State → List (List ℕ) → List ℕ
  listed_from s lines = rows_from s lines ++ L.closing (after_lines s lines)

  -- the header, and what is listed of all lines
  abbrev pub listing_of : List ℕ → List ℕ
  listing_of input = L.header ++ listed_from L.first (lines_from [] input)
