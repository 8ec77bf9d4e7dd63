-- One buffer with the samples of both ears: left and right in turn.
use Rattle.std.specs.Prelude.{List, [], ◌∷◌, Float, drop}

-- the first sample, the third, and so on
unfoldable pub every_second : List Float → List Float
every_second [] = []
every_second (x ∷ []) = x ∷ []
every_second (x ∷ y ∷ s) = x ∷ every_second s

-- the left ear's samples begin with the first of the buffer, the right ear's with the second
abbrev pub lefts : List Float → List Float
lefts buffer = every_second buffer

abbrev pub rights : List Float → List Float
rights buffer = every_second (drop 1 buffer)

-- the buffer of two ears' samples
unfoldable pub in_turn : List Float → List Float → List Float
in_turn [] rs = rs
in_turn (l ∷ ls) [] = l ∷ ls
in_turn (l ∷ ls) (r ∷ rs) = l ∷ r ∷ in_turn ls rs
