-- A test of every entry, made entry by entry: the entries so far beside the rest.
use Prim.Native.Nat.{ℕ, ◌<◌, ◌+◌}
use mathlib.Core.Path.{◌≡◌, refl}
use mathlib.Core.Bool.{Bool, true, false, ◌&&◌}
use mathlib.Core.List.{List}
use native.Mathlib.Numerals.{add-one}
use lib.ListN.{drop, length}
use lib.Seq.{drop-cons, drop-length}
use lib.Ieee.{Float, nan}
use Rattle.floats.specs.Single.{each, at}

-- one entry more is looked at
pub one_more : (test : Float → Bool) (all : Bool) (s : List Float) (i : ℕ) → i < length s →
    (all && each test (drop i s)) ≡ ((all && test (at s i)) && each test (drop (i + 1) s))
one_more test false s i h = refl
one_more test true s i h = rw (drop-cons s i nan, add-one)

-- none is left
pub none_left : (test : Float → Bool) (all : Bool) (s : List Float) → (all && each test (drop (length s) s)) ≡ all
none_left test false s = refl
none_left test true s = rw drop-length
