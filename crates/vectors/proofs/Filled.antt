-- A list that is filled from its start on.
use Rattle.std.proofs.Common.{ℕ, zero, suc, ◌<◌, ◌+◌, ◌≡◌, refl, List, append_assoc, append-nil, add-one, arith, length, length-append, drop-cons}
use lib.ListN.{set}
use lib.Seq.{set_at}
use Rattle.std.proofs.lemmas.List.{drop_all}
use Rattle.vectors.specs.Parts.{first_of, filled}

pub length_first : {A : Type 0} (f : ℕ → A) (n : ℕ) → length (first_of f n) ≡ n
length_first f zero = refl
length_first f (suc n) = simp length-append (omega (arith, length_first f n))

-- filled up to i, and with f i stored at i, it is filled up to i + 1
pub filled_more : {A : Type 0} (f : ℕ → A) (l : List A) (i : ℕ) (a d : A) → i < length l → a ≡ f i → set (filled f i l) i a ≡ filled f (i + 1) l
unfolding filled
filled_more f l i a d h e = rw (add-one, drop-cons l i d, append_assoc, e) (set_at (first_of f i) _ _ _ i (length_first f i))

-- filled to its end, nothing of the list is left
pub filled_all : {A : Type 0} (f : ℕ → A) (l r : List A) (n : ℕ) → n ≡ length l → r ≡ filled f n l → r ≡ first_of f (length l)
unfolding filled
filled_all f l r n h e = rw (e, h, drop_all (length l) l (omega arith)) (append-nil _)
