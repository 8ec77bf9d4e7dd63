-- The fields of a line: a tab parts them, and each is a dash or a number.
use Rattle.std.specs.Prelude.{ℕ, zero, suc, ◌+◌, ◌-◌, ◌*◌, min, Bool, ◌&&◌, cond, List, [], ◌∷◌, leb, ltb, eqb, length, get_or, take, drop, Option, Some, None, Result, Ok, Err}
use Rattle.lines.specs.declared.field.Malformed.{Malformed}

-- where a byte first stands; the length where it does not
unfoldable pub byte_at : ℕ → List ℕ → ℕ
byte_at byte [] = zero
byte_at byte (b ∷ bs) = cond (eqb b byte) zero (suc (byte_at byte bs))

abbrev pub tab_at : List ℕ → ℕ
tab_at line = byte_at 9 line

-- whether a text has a tab, what stands before the first one, and what after it
abbrev pub has_tab : List ℕ → Bool
has_tab s = ltb (tab_at s) (length s)

abbrev pub before_tab : List ℕ → List ℕ
before_tab s = take (tab_at s) s

abbrev pub after_tab : List ℕ → List ℕ
after_tab s = drop (tab_at s + 1) s

abbrev pub malformed : {A : Type 0} → Result A Malformed
malformed = Err (record {})

-- the number that digits make after those of v; anything else among them is malformed
unfoldable pub digits_after : ℕ → List ℕ → Result ℕ Malformed
digits_after v [] = Ok v
digits_after v (b ∷ bs) = cond (leb 48 b && leb b 57) (digits_after (10 * v + (b - 48)) bs) malformed

-- a number of 1 to `most` digits, and of nine at most
unfoldable pub number_of : ℕ → List ℕ → Result ℕ Malformed
unfolding digits_after
number_of most s = cond (leb 1 (length s) && leb (length s) (min most 9)) (digits_after 0 s) malformed

abbrev pub is_dash : List ℕ → Bool
is_dash s = eqb (length s) 1 && eqb (get_or s 0 0) 45

abbrev pub as_field : Result ℕ Malformed → Result (Option ℕ) Malformed
as_field (Ok n) = Ok (Some n)
as_field (Err e) = Err e

-- a dash, or such a number
abbrev pub field_of : ℕ → List ℕ → Result (Option ℕ) Malformed
field_of most s = cond (is_dash s) (Ok None) (as_field (number_of most s))
