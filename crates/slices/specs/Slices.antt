-- A block that takes the place of as many entries of a list.
use Rattle.std.specs.Prelude.{ℕ, ◌+◌, cond, List, ◌++◌, leb, length, take, drop}

-- the list with a block in place of as many entries
unfoldable pub stored : {A : Type 0} → List A → ℕ → List A → List A
stored into at block = take at into ++ block ++ drop (at + length block) into

-- and without it, where the block does not fit
unfoldable pub placed : {A : Type 0} → List A → ℕ → List A → List A
unfolding stored
placed into at block = cond (leb (at + length block) (length into)) (stored into at block) into
