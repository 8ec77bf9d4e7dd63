-- Text that is written piece by piece.
use Prim.Native.Nat.{ℕ, suc, ◌+◌, ◌≤◌, ◌<◌}
use mathlib.Core.Path.{◌≡◌, ap, sym, ◌∙◌}
use mathlib.Core.List.{List, [], ◌∷◌, ◌++◌}
use borrow.Author.Tests.{le-leb, lt-leb}
use native.Mathlib.Nat.{add-zero, add-suc, suc-add, add_assoc}
use lib.ListN.{length, set, length-append}
use lib.Seq.{sets, length-sets, sets-eq}
use Rattle.slices.specs.Slices.{stored, placed}
use Rattle.slices.proofs.Stored.{placed_stored}
use Rattle.cells.specs.Texts.{Written, Put}

-- a store after a run of stores lengthens the run
pub sets_append : (l : List ℕ) (i : ℕ) (a b : List ℕ) → sets (sets l i a) (i + length a) b ≡ sets l i (a ++ b)
sets_append l i [] b = rw add-zero
sets_append l i (x ∷ a) b = rw (add-suc, ← suc-add) (sets_append (set l i x) (suc i) a b)

-- one text, then another
pub written_then : {l m n s t : List ℕ} {i j k : ℕ} → Written l i s m j → Written m j t n k → Written l i (s ++ t) n k
written_then {l} {m} {n} {s} {t} {i} {j} {k} p q =
    record {
      stored = q.stored ∙ rw (p.stored, p.ends) (sets_append l i s t);
      ends = q.ends ∙ rw (p.ends, length-append) (add_assoc i (length s) (length t));
    }

-- a buffer keeps its length
pub written_length : {l m s : List ℕ} {i j : ℕ} → Written l i s m j → length m ≡ length l
written_length {l} {m} {s} {i} w = ap length w.stored ∙ length-sets l i s

-- where there is space, the text is written, and where there is not, nothing is
pub written : {space : ℕ} {l m s : List ℕ} {i j : ℕ} → Put space l i s m j → i + space ≤ length l → Written l i s m j
written {space} {l} {m} {s} {i} p h =
    record { stored = p.stored ∙ rw (le-leb (i + space) (length l) h); ends = p.ends ∙ rw (le-leb (i + space) (length l) h) }

pub put_written : {space : ℕ} {l m s : List ℕ} {i j : ℕ} → i + space ≤ length l → Written l i s m j → Put space l i s m j
put_written {space} {l} {m} {s} {i} h w =
    record { stored = w.stored ∙ rw (le-leb (i + space) (length l) h); ends = w.ends ∙ rw (le-leb (i + space) (length l) h) }

pub put_nothing : (space : ℕ) (l s : List ℕ) (i : ℕ) → length l < i + space → Put space l i s l i
put_nothing space l s i h = record { stored = rw (lt-leb (i + space) (length l) h); ends = rw (lt-leb (i + space) (length l) h) }

-- a block of a slice is text in it
pub placed_sets : (l text : List ℕ) (i : ℕ) → i + length text ≤ length l → placed l i text ≡ sets l i text
unfolding stored
placed_sets l text i h = placed_stored l text i h ∙ sym (sets-eq text l i h)
