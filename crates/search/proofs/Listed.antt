-- Laws of `list_of`: its length, its entries, and an array that is filled with it entry by entry.
use Prim.Native.Nat.{ℕ, zero, suc, ◌+◌, ◌-◌, ◌<◌, ◌≤◌}
use mathlib.Core.Path.{◌≡◌, refl, sym, ◌∙◌, ap}
use mathlib.Core.List.{List, [], ◌∷◌, ◌++◌}
use native.Mathlib.Numerals.{add-one}
use native.Mathlib.Omega.{arith}
use lib.Ieee.{Float, nan}
use lib.ListN.{length, take, set, length-append, get_or-append}
use lib.Seq.{take_all, take-suc-set, get_or_at, ext_get_or}
use mathlib.Core.Bool.{Bool, true, false}
use borrow.Author.Tests.{ltb-true, ltb-false}
use lib.Dec.{ltb}
use Rattle.floats.specs.Single.{at}
use Rattle.std.proofs.Common.{reverse}
use Rattle.std.proofs.lemmas.List.{length-reverse, get_or-reverse}
use Rattle.search.specs.Lists.{list_of}

pub list_of_length : (f : ℕ → Float) (n : ℕ) → length (list_of f n) ≡ n
unfolding list_of
list_of_length f zero = refl
list_of_length f (suc n) = rw (length-append, list_of_length f n, add-one)

pub list_of_at : (f : ℕ → Float) (n i : ℕ) → i < n → at (list_of f n) i ≡ f i
unfolding list_of
list_of_at f zero i h = absurd (omega arith)
list_of_at f (suc n) i h = go (ltb i n) refl (list_of_at f n i)
  where
    go : (b : Bool) → ltb i n ≡ b → (i < n → at (list_of f n) i ≡ f i) → at (list_of f n ++ (f n ∷ [])) i ≡ f i
    go true e below = get_or-append (list_of f n) (f n ∷ []) nan i (omega (arith, list_of_length f n, ltb-true i n e)) ∙ below (ltb-true i n e)
    go false e below =
        let same : n ≡ i = omega (arith, ltb-false i n e) in
        get_or_at (list_of f n) (f n) [] nan i (list_of_length f n ∙ same) ∙ ap f same

-- one entry more
pub fill_one : (f : ℕ → Float) (out : List Float) (k : ℕ) (v : Float) → k < length out → take k out ≡ list_of f k → v ≡ f k →
    take (k + 1) (set out k v) ≡ list_of f (k + 1)
unfolding list_of
fill_one f out k v h e same = rw (add-one, take-suc-set, e, same)

-- all entries
pub filled : (f : ℕ → Float) (out : List Float) (n k : ℕ) → length out ≡ n → n ≤ k → k ≤ n → take k out ≡ list_of f k → out ≡ list_of f n
filled f out n k l a b e =
    let same : k ≡ n = omega arith in
    sym (take_all n out (omega arith)) ∙ rw (← same, e)

-- a list that has f's entries is f's list
pub as_list_of : (f : ℕ → Float) (r : List Float) (n : ℕ) → length r ≡ n → ((k : ℕ) → k < n → at r k ≡ f k) → r ≡ list_of f n
as_list_of f r n l h =
    ext_get_or nan r (list_of f n) (l ∙ sym (list_of_length f n)) (λ k b. let c : k < n = omega arith in h k c ∙ sym (list_of_at f n k c))

-- a list read from its last entry to its first
pub turned : (f g : ℕ → Float) (s : List Float) (n : ℕ) → length s ≡ n → ((k : ℕ) → k < n → at s k ≡ f k) → ((k : ℕ) → k < n → f (n - 1 - k) ≡ g k) →
    reverse s ≡ list_of g n
turned f g s n l h e =
    as_list_of g (reverse s) n (length-reverse s ∙ l) (λ k b. get_or-reverse s k nan (omega arith) ∙ rw l (h (n - 1 - k) (omega arith) ∙ e k b))
