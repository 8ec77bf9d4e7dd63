-- Samples written into a list: what is there, what they leave alone, and that a block that is put in is written sample by sample.
use Prim.Native.Nat.{ℕ, zero, suc, ◌+◌, ◌≤◌, ◌<◌, min}
use mathlib.Core.Path.{◌≡◌, refl, sym, ◌∙◌}
use mathlib.Core.Bool.{Bool, true, false}
use mathlib.Core.List.{List}
use native.Mathlib.Omega.{arith}
use borrow.Author.Tests.{ltb-true, ltb-false}
use lib.Dec.{ltb}
use lib.ListN.{length, get_or, length-set}
use lib.Seq.{get_or-set_same, get_or-set_other, set_out, paste, paste-zero, paste-suc, take-length}
use lib.Ieee.{Float, nan}
use Rattle.slices.specs.Slices.{stored, placed}
use Rattle.slices.specs.Written.{written}
use Rattle.slices.proofs.Stored.{placed_stored}

pub length_written : (x : List Float) (start : ℕ) (f : ℕ → Float) (n : ℕ) → length (written x start f n) ≡ length x
unfolding written
length_written x start f zero = refl
length_written x start f (suc n) = simp length-set (length_written x start f n)

-- an entry that is not reached yet is as it was
pub at_written : (x : List Float) (start : ℕ) (f : ℕ → Float) (n i : ℕ) → start + n ≤ i → get_or (written x start f n) i nan ≡ get_or x i nan
unfolding written
at_written x start f zero i h = refl
at_written x start f (suc n) i h =
    rw (get_or-set_other (written x start f n) (start + n) i (f n) nan (λ e. omega arith)) (at_written x start f n i (omega arith))

-- what has been written is there
pub at_written_in : (x : List Float) (start : ℕ) (f : ℕ → Float) (n k : ℕ) → start + n ≤ length x → k < n → get_or (written x start f n) (start + k) nan ≡ f k
unfolding written
at_written_in x start f zero k l h = absurd (omega arith)
at_written_in x start f (suc n) k l h = go (ltb k n) refl (at_written_in x start f n k (omega arith))
  where
    go : (b : Bool) → ltb k n ≡ b → (k < n → get_or (written x start f n) (start + k) nan ≡ f k) → get_or (written x start f (suc n)) (start + k) nan ≡ f k
    go true e before =
        let below : k < n = ltb-true k n e in
        rw (get_or-set_other (written x start f n) (start + n) (start + k) (f n) nan (λ e. omega arith)) (before below)
    go false e before =
        let same : k ≡ n = omega (arith, ltb-false k n e) in
        rw (same, get_or-set_same (written x start f n) (start + n) (f n) nan (omega (arith, length_written x start f n)))

-- an entry before them is as it was
pub at_written_below : (x : List Float) (start : ℕ) (f : ℕ → Float) (n k : ℕ) → k < start → get_or (written x start f n) k nan ≡ get_or x k nan
unfolding written
at_written_below x start f zero k h = refl
at_written_below x start f (suc n) k h =
    rw (get_or-set_other (written x start f n) (start + n) k (f n) nan (λ e. omega arith)) (at_written_below x start f n k h)

pub written_same : (x : List Float) (start : ℕ) (f g : ℕ → Float) (n : ℕ) → ((k : ℕ) → k < n → f k ≡ g k) → written x start f n ≡ written x start g n
unfolding written
written_same x start f g zero h = refl
written_same x start f g (suc n) h = rw (written_same x start f g n (λ k l. h k (omega arith)), h n (omega arith))

-- samples past the end of the list are dropped
pub written_past : (x : List Float) (start : ℕ) (f : ℕ → Float) (most n : ℕ) → start + most ≡ length x → written x start f n ≡ written x start f (min n most)
unfolding written
written_past x start f most zero e = let none : min 0 most ≡ 0 = omega arith in rw none
written_past x start f most (suc n) e = go (ltb n most) refl (written_past x start f most n e)
  where
    go : (b : Bool) → ltb n most ≡ b → written x start f n ≡ written x start f (min n most) → written x start f (suc n) ≡ written x start f (min (suc n) most)
    go true t before = let all : min (suc n) most ≡ suc n = omega (arith, ltb-true n most t) in rw all
    go false t before =
        let past : most ≤ n = ltb-false n most t in
        let some : min (suc n) most ≡ min n most = omega arith in
        set_out (written x start f n) (start + n) (f n) (omega (arith, length_written x start f n)) ∙ rw some before

-- a block that fits is written sample by sample
so_far : (l block : List Float) (at n : ℕ) → at + length block ≤ length l → n ≤ length block → paste l at block n ≡ written l at (λ i. get_or block i nan) n
unfolding written
so_far l block at zero h b = sym (paste-zero l at block)
so_far l block at (suc n) h b = sym (paste-suc l at block n nan (omega arith) (omega arith)) ∙ rw (so_far l block at n h (omega arith))

pub placed_written : (l block : List Float) (at : ℕ) → at + length block ≤ length l → placed l at block ≡ written l at (λ i. get_or block i nan) (length block)
unfolding stored
placed_written l block at h = placed_stored l block at h ∙ rw take-length at (so_far l block at (length block) h (omega arith))
