-- The range of an ear's samples, tested one by one; and of a whole buffer, which is that of both ears.
use Prim.Native.Nat.{ℕ, suc, ◌+◌, ◌≤◌, ◌<◌}
use mathlib.Core.Path.{◌≡◌, refl, ap, ◌∙◌}
use mathlib.Core.Bool.{Bool, true, false, ◌&&◌}
use mathlib.Core.List.{List, [], ◌∷◌}
use native.Mathlib.Omega.{arith}
use lib.Ieee.{Float, nan}
use lib.ListN.{length, drop, drop_of_length-le}
use lib.Seq.{drop-cons, drop-drop}
use Rattle.rates.proofs.Known.{both}
use Rattle.floats.specs.Single.{in_range, all_in_range, at}
use Rattle.interleave.specs.Turns.{every_second, lefts, rights}
use Rattle.interleave.proofs.Buffers.{lefts_next}

-- from a place inside the buffer: its sample, and every second one after that
second_cons : (s : List Float) (i : ℕ) → i < length s → every_second (drop i s) ≡ at s i ∷ every_second (drop (i + 2) s)
second_cons s i h =
    let e : suc i + 1 ≡ i + 2 = omega arith in
    rw (drop-cons s i nan h) (lefts_next (at s i) (drop (suc i) s) ∙ ap (λ (t : List Float). at s i ∷ every_second t) (rw e at (drop-drop 1 (suc i) s)))

-- one sample more is looked at
pub one_more : (all : Bool) (s : List Float) (i : ℕ) → i < length s →
    (all && all_in_range (every_second (drop i s))) ≡ ((all && in_range (at s i)) && all_in_range (every_second (drop (i + 2) s)))
one_more false s i h = refl
one_more true s i h = rw (second_cons s i h)

-- none is left
pub none_left : (all : Bool) (s : List Float) (i : ℕ) → length s ≤ i → (all && all_in_range (every_second (drop i s))) ≡ all
unfolding every_second
none_left false s i h = refl
none_left true s i h = rw (drop_of_length-le s {i = i} h)

-- a buffer whose samples are all in range: so are those of each ear
pub all_of_both : (s : List Float) → all_in_range s ≡ true → (all_in_range (lefts s) ≡ true) × (all_in_range (rights s) ≡ true)
unfolding every_second
all_of_both [] e = (refl, refl)
all_of_both (x ∷ s) e =
    let parts = both (in_range x) (all_in_range s) e in
    let rest = all_of_both s parts.1 in
    rw (lefts_next x s, parts.0) (rest.1, rest.0)
