-- 32-bit floats in the words of the definitions: the four operations, each rounded once, constants, and the tests of a lent set and of samples.
use Rattle.std.specs.Prelude.{ℕ, ◌^◌, Bool, true, false, ◌&&◌, List, [], ◌∷◌, pos, get_or, Float}
use Rattle.std.specs.Float.{nan, inf, fin, binary32}
use Rattle.std.specs.Float.Ieee.{round, add, sub, mul, div, of_int, le, neg}

infixl 65 ◌⊕◌ ◌⊖◌
infixl 70 ◌⊗◌ ◌⊘◌
abbrev pub ◌⊕◌ : Float → Float → Float
x ⊕ y = add binary32 x y

abbrev pub ◌⊖◌ : Float → Float → Float
x ⊖ y = sub binary32 x y

abbrev pub ◌⊗◌ : Float → Float → Float
x ⊗ y = mul binary32 x y

abbrev pub ◌⊘◌ : Float → Float → Float
x ⊘ y = div binary32 x y

-- 0.0, from which every sum starts
abbrev pub 0·0 : Float
0·0 = fin false 0 (pos 0)

-- the constant n / 10 ^ k, rounded once
abbrev pub decimal : ℕ → ℕ → Float
decimal n k = round binary32 false n (10 ^ k)

-- a whole number as a float
abbrev pub float : ℕ → Float
float n = of_int binary32 (pos n)

-- entry i of a list, and NaN past its end
abbrev pub at : List Float → ℕ → Float
at xs i = get_or xs i nan

-- no infinity and no NaN
abbrev pub finite : Float → Bool
finite nan = false
finite (inf s) = false
finite (fin s m e) = true

-- each entry of a list passes a test
abbrev pub each : (Float → Bool) → List Float → Bool
each test [] = true
each test (x ∷ xs) = test x && each test xs

abbrev pub all_finite : List Float → Bool
all_finite s = each finite s

-- no NaN, and not beyond ±1,048,576
unfoldable pub in_range : Float → Bool
in_range x = le (neg (float 1048576)) x && le x (float 1048576)

abbrev pub all_in_range : List Float → Bool
all_in_range s = each in_range s
