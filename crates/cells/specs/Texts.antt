-- Text that is written into a buffer, and the cells of a row.
use Rattle.std.specs.Prelude.{ℕ, ◌+◌, ◌≡◌, cond, List, [], ◌∷◌, ◌++◌, leb, ℤ, length}
use Rattle.std.proofs.lemmas.List.Edits.{sets}
use Rattle.cells.specs.Decimal.{decimal, signed_decimal}

-- the cell of a number, of an integer, and one that holds a dash, each with the byte that ends it
abbrev pub cell : ℕ → ℕ → List ℕ
cell n end = decimal n ++ (end ∷ [])

abbrev pub signed_cell : ℤ → ℕ → List ℕ
signed_cell z end = signed_decimal z ++ (end ∷ [])

abbrev pub dash_cell : ℕ → List ℕ
dash_cell end = 45 ∷ end ∷ []

-- the text stands in the buffer from `at` on, all else is as before, and the next byte goes after it
pub record Written (before : List ℕ) (at : ℕ) (text : List ℕ) (after : List ℕ) (next : ℕ) : Type 0 where
  pub stored : after ≡ sets before at text
  pub ends : next ≡ at + length text

-- the same where `space` bytes are left from `at` on; where fewer are, nothing is written and the next byte goes to `at`
pub record Put (space : ℕ) (before : List ℕ) (at : ℕ) (text : List ℕ) (after : List ℕ) (next : ℕ) : Type 0 where
  pub stored : after ≡ cond (leb (at + space) (length before)) (sets before at text) before
  pub ends : next ≡ cond (leb (at + space) (length before)) (at + length text) at
