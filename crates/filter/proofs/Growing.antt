-- Lists that grow at their end: a run of outputs, and a block of them.
use Prim.Native.Nat.{ℕ, zero, suc, ◌+◌, ◌-◌, ◌≤◌, ◌<◌}
use mathlib.Core.Path.{◌≡◌, sym, ◌∙◌, ap}
use mathlib.Core.List.{List, [], ◌∷◌, ◌++◌, append-nil}
use native.Mathlib.Nat.{add-zero, add-suc, suc-add}
use native.Mathlib.Omega.{arith}
use lib.ListN.{length, take, drop, length-append, length-drop, take-append-drop}
use lib.Seq.{drop-drop, drop-append-add, append_snoc, take_all, take-append-le, length-take-le}
use lib.Ieee.{Float}
use Rattle.floats.specs.Single.{at}
use Rattle.slices.specs.Slices.{stored}
use Rattle.filter.specs.Fade.{grow, grown}

pub length_grow : (f : List Float → Float) (ys : List Float) (n : ℕ) → length (grow f ys n) ≡ length ys + n
unfolding grow
length_grow f ys zero = omega arith
length_grow f ys (suc n) = simp length-append (omega (arith, length_grow f ys n))

-- the first m of m + n outputs
take_more : (f : List Float → Float) (ys : List Float) (m n k : ℕ) → length ys + m ≡ k → take k (grow f ys (m + n)) ≡ grow f ys m
unfolding grow
take_more f ys m zero k e = rw add-zero (take_all k (grow f ys m) (omega (arith, length_grow f ys m)))
take_more f ys m (suc n) k e =
    rw (add-suc m n) (take-append-le k (grow f ys (m + n)) _ (omega (arith, length_grow f ys (m + n))) ∙ take_more f ys m n k e)

pub take_grow : (f : List Float → Float) (ys : List Float) (m n k : ℕ) → m ≤ n → length ys + m ≡ k → take k (grow f ys n) ≡ grow f ys m
take_grow f ys m n k l e = let s : n ≡ m + (n - m) = omega arith in rw s (take_more f ys m (n - m) k e)

-- values that are the next outputs, put after outputs
grow_after : (f : List Float → Float) (ys : List Float) (m : ℕ) (vs : List Float) →
    ((j : ℕ) → j < length vs → at vs j ≡ f (grow f ys (m + j))) → grow f ys m ++ vs ≡ grow f ys (m + length vs)
unfolding grow
grow_after f ys m [] h = append-nil (grow f ys m) ∙ rw add-zero
grow_after f ys m (v ∷ vs) h =
    let first : v ≡ f (grow f ys m) = h 0 (omega arith) ∙ rw add-zero in
    let all : suc m + length vs ≡ m + length (v ∷ vs) = omega arith in
    sym (append_snoc (grow f ys m) v vs)
    ∙ ap (λ (w : Float). grow f ys m ++ (w ∷ []) ++ vs) first
    ∙ grow_after f ys (suc m) vs (λ j l. h (suc j) (omega arith) ∙ rw (add-suc m j, suc-add m j))
    ∙ ap (grow f ys) all

module _ (f : List Float → Float) (y : List Float) (from n : ℕ) (h : from + n ≤ length y) where
  pub length_outputs : length (grow f (take from y) n) ≡ from + n
  length_outputs = length_grow f (take from y) n ∙ rw (length-take-le from y (omega arith))

  -- the line holds each number of outputs so far
  pub take_made : (m : ℕ) → m ≤ n → take (from + m) (grown f y from n) ≡ grow f (take from y) m
  unfolding grown
  take_made m l =
      take-append-le (from + m) (grow f (take from y) n) _ (omega (arith, length_outputs))
      ∙ take_grow f (take from y) m n (from + m) l (omega (arith, length-take-le from y (omega arith)))

  pub take_grown : take (from + n) (grown f y from n) ≡ grow f (take from y) n
  take_grown = take_made n (omega arith)

  pub length_grown : length (grown f y from n) ≡ length y
  unfolding grown
  length_grown = simp (length-append, length-drop) (omega (arith, length_outputs))

  -- what lies before the outputs stays
  pub before_grown : take from (grown f y from n) ≡ take from y
  unfolding grow
  before_grown = rw add-zero at (take_made 0 (omega arith))

  -- and what lies after them
  after_grown : (d : ℕ) → drop (from + n + d) (grown f y from n) ≡ drop (from + n + d) y
  unfolding grown
  after_grown d = rw length_outputs at (drop-append-add (grow f (take from y) n) (drop (from + n) y) d) ∙ drop-drop d (from + n) y

-- a block of next outputs, of which some may be there already, stored over the line
pub grown_after : (f : List Float → Float) (y : List Float) (from m n : ℕ) (vs : List Float) → m ≤ n → n ≤ m + length vs →
    from + (m + length vs) ≤ length y → ((j : ℕ) → j < length vs → at vs j ≡ f (grow f (take from y) (m + j))) →
    stored (grown f y from n) (from + m) vs ≡ grown f y from (m + length vs)
unfolding stored grown
grown_after f y from m n vs mn nk h next =
    let e : from + m + length vs ≡ from + n + (m + length vs - n) = omega arith in
    let e' : from + m + length vs ≡ from + (m + length vs) = omega arith in
    let rest : drop (from + m + length vs) (grown f y from n) ≡ drop (from + m + length vs) y = rw e (after_grown f y from n (omega arith) (m + length vs - n)) in
    rw (take_made f y from n (omega arith) m mn, grow_after f (take from y) m vs next, rest, e')

-- before the first output the line is as it was
pub grown_none : (f : List Float → Float) (y : List Float) (from : ℕ) → y ≡ grown f y from 0
unfolding grown grow
grown_none f y from = rw add-zero (sym (take-append-drop from y))

-- outputs to the end of the line
pub grown_all : (f : List Float → Float) (y : List Float) (from n : ℕ) → from + n ≡ length y → grown f y from n ≡ grow f (take from y) n
grown_all f y from n e =
    sym (take_all (from + n) (grown f y from n) (omega (arith, length_grown f y from n (omega arith))))
    ∙ take_grown f y from n (omega arith)
