-- A stored block: what lies before it, after it, and at the end of a list.
use Prim.Native.Nat.{ℕ, ◌+◌, ◌≤◌}
use mathlib.Core.Path.{◌≡◌, refl, ◌∙◌}
use mathlib.Core.Bool.{Bool, true, false, cond}
use mathlib.Core.List.{List, ◌++◌, append_assoc, append-nil}
use native.Mathlib.Omega.{arith}
use borrow.Author.Tests.{le-leb, leb-true}
use lib.Dec.{leb}
use lib.ListN.{length, take, drop, length-append, length-drop}
use lib.Seq.{take_at, take-add, drop_at, drop-length, length-take-le}
use Rattle.slices.specs.Slices.{stored, placed}

-- a block that fits is stored
pub placed_stored : {A : Type 0} (l block : List A) (at : ℕ) → at + length block ≤ length l → placed l at block ≡ stored l at block
unfolding placed
placed_stored l block at h = rw (le-leb (at + length block) (length l) h)

module _ {A : Type 0} (l block : List A) (start end : ℕ) (e : start + length block ≡ end) (h : end ≤ length l) where
  front_long : length (take start l ++ block) ≡ end
  front_long = length-append (take start l) block ∙ rw (length-take-le start l (omega arith), e)

  -- up to the block's end a stored list is what lay before the block, and the block
  pub take_stored : take end (stored l start block) ≡ take start l ++ block
  unfolding stored
  take_stored = take_at (take start l ++ block) _ end front_long

  -- after it the list is as it was
  pub drop_stored : drop end (stored l start block) ≡ drop end l
  unfolding stored
  drop_stored = rw e (drop_at (take start l ++ block) _ end front_long)

  pub length_stored : length (stored l start block) ≡ length l
  unfolding stored
  length_stored = simp (length-append, length-drop) (omega (arith, length-take-le start l (omega arith)))

-- before the block the list is as it was
pub before_stored : {A : Type 0} (l block : List A) (start : ℕ) → start ≤ length l → take start (stored l start block) ≡ take start l
unfolding stored
before_stored l block start h = rw (append_assoc (take start l) block (drop (start + length block) l)) (take_at (take start l) _ start (length-take-le start l h))

-- placed or not, a block changes no length
pub length_placed : {A : Type 0} (l block : List A) (at : ℕ) → length (placed l at block) ≡ length l
unfolding placed
length_placed l block at = go (leb (at + length block) (length l)) refl
  where
    go : (b : Bool) → leb (at + length block) (length l) ≡ b → length (cond b (stored l at block) l) ≡ length l
    go true e = length_stored l block at (at + length block) refl (leb-true (at + length block) (length l) e)
    go false e = refl

-- a block that is placed at the front
pub take_placed : {A : Type 0} (l block : List A) → length block ≤ length l → take (length block) (placed l 0 block) ≡ block
take_placed l block h = rw (placed_stored l block 0 (omega arith)) (take_stored l block 0 (length block) (omega arith) h)

-- a block stored at a list's end
pub stored_last : {A : Type 0} (l block : List A) (start : ℕ) → start + length block ≡ length l → stored l start block ≡ take start l ++ block
unfolding stored
stored_last l block start e = rw (e, drop-length l, append-nil)

-- a part after the first n entries
pub drop_take : {A : Type 0} (n k : ℕ) (l : List A) → n ≤ length l → drop n (take (n + k) l) ≡ take k (drop n l)
drop_take n k l h = rw take-add (drop_at (take n l) _ n (length-take-le n l h))
