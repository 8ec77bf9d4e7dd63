-- A list with the first entries of a block put in, one a turn: how a loop stores it.
use Prim.Native.Nat.{ℕ, ◌+◌, ◌<◌}
use mathlib.Core.Path.{◌≡◌}
use mathlib.Core.List.{List}
use native.Mathlib.Numerals.{add-one}
use lib.ListN.{length, set, get_or}
use lib.Seq.{paste, paste-zero, paste-suc, take-length}
use lib.Ieee.{Float, nan}
use Rattle.slices.specs.Slices.{stored}

-- the first k entries of the block put in
pub pasted : {A : Type 0} → List A → ℕ → List A → ℕ → List A
pasted into at block k = paste into at block k

pub none_pasted : {A : Type 0} (into : List A) (at : ℕ) (block : List A) → into ≡ pasted into at block 0
unfolding pasted
none_pasted into at block = paste-zero into at block

pub entry_pasted : {A : Type 0} (into block : List A) (at k : ℕ) (d : A) → at + k < length into → k < length block →
    set (pasted into at block k) (at + k) (get_or block k d) ≡ pasted into at block (k + 1)
unfolding pasted
entry_pasted into block at k d h l = rw add-one (paste-suc into at block k d h l)

pub one_pasted : (into block : List Float) (at k : ℕ) → at + k < length into → k < length block →
    set (pasted into at block k) (at + k) (get_or block k nan) ≡ pasted into at block (k + 1)
one_pasted into block at k h l = entry_pasted into block at k nan h l

pub all_pasted : {A : Type 0} (into : List A) (at : ℕ) (block : List A) (k : ℕ) → k ≡ length block → pasted into at block k ≡ stored into at block
unfolding pasted stored
all_pasted into at block k e = rw (e, take-length)
