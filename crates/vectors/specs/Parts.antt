-- The parts of a record, as they are read. No contract can say which bytes came.
use Rattle.std.specs.Prelude.{ℕ, zero, suc, Bool, Float, true, cond, List, [], ◌∷◌, ◌++◌, ◌≡◌, leb, drop, get_or, replicate}
use Rattle.std.specs.Prelude.{Result, Ok, Err}
use Rattle.std.specs.Float.{binary32}
use Rattle.std.specs.Float.Ieee.{of_bits}
use Rattle.vectors.specs.Numbers.{four}
use Rattle.vectors.specs.declared.part.Numbers.{Numbers}

-- f 0, f 1, .. : n of them
abbrev pub first_of : {A : Type 0} → (ℕ → A) → ℕ → List A
first_of f zero = []
first_of f (suc n) = first_of f n ++ (f n ∷ [])

-- a list with those in place of its first n entries
unfoldable pub filled : {A : Type 0} → (ℕ → A) → ℕ → List A → List A
filled f n l = first_of f n ++ drop n l

-- no floats
abbrev pub no_floats : Numbers Float
no_floats = record { values = replicate 1024 (of_bits binary32 0); count = 0 }

-- a part that is whole, or what came of it
abbrev pub part : {A : Type 0} → Bool → A → Result A A
part whole a = cond whole (Ok a) (Err a)

-- the number of some bytes; of more than four it is 0, and not whole
abbrev pub number_of : ℕ → List ℕ → Bool → Result ℕ ℕ
number_of width bytes whole = cond (leb width 4) (part whole (four (get_or bytes 0 0) (get_or bytes 1 0) (get_or bytes 2 0) (get_or bytes 3 0))) (Err 0)

-- the entries of some bytes, with zeros after them; of more than 1024 there are none, and they are not whole
abbrev pub numbers_of : {A : Type 0} → A → (List ℕ → ℕ → A) → ℕ → List ℕ → Bool → Result (Numbers A) (Numbers A)
numbers_of none entry_at count bytes whole =
    cond (leb count 1024)
    (part whole (record { values = filled (entry_at bytes) count (replicate 1024 none); count = count }))
    (Err (record { values = replicate 1024 none; count = 0 }))

-- what is read is that of some bytes, whole or not. A part of nothing is always whole.
pub record NumberRead (width : ℕ) (r : Result ℕ ℕ) : Type 0 where
  pub bytes : List ℕ
  pub whole : Bool
  pub equal : r ≡ number_of width bytes whole
  pub nothing : width ≡ 0 → whole ≡ true

pub record NumbersRead {A : Type 0} (none : A) (entry_at : List ℕ → ℕ → A) (count : ℕ) (r : Result (Numbers A) (Numbers A)) : Type 0 where
  pub bytes : List ℕ
  pub whole : Bool
  pub equal : r ≡ numbers_of none entry_at count bytes whole
  pub nothing : count ≡ 0 → whole ≡ true
