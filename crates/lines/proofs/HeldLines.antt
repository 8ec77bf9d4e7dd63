-- The line that is held, as the code reads it, and that it is enough.
use Prim.Native.Nat.{ℕ, ◌≤◌, ◌<◌, min}
use mathlib.Core.Path.{◌≡◌, refl, sym, ap, ◌∙◌}
use mathlib.Core.Bool.{Bool, true, false}
use mathlib.Core.List.{List}
use native.Mathlib.Omega.{arith}
use borrow.Author.Tests.{leb-true, leb-false}
use lib.Dec.{leb}
use lib.ListN.{length, take}
use lib.Seq.{take_all, length-take-le}

-- of 32 bytes, the first 32 are as many as any larger count takes
pub capped : (l : List ℕ) (n : ℕ) → length l ≡ 32 → take (min n 32) l ≡ take n l
capped l n e = go (leb n 32) refl
  where
    go : (b : Bool) → leb n 32 ≡ b → take (min n 32) l ≡ take n l
    go true p = let t : min n 32 ≡ n = omega (arith, leb-true n 32 p) in rw t
    go false p = let t : min n 32 ≡ 32 = omega (arith, leb-false n 32 p) in rw (t, take_all 32 l (omega arith), take_all n l (omega (arith, leb-false n 32 p)))

-- where every line of 32 bytes or more is answered alike, a line's first 32 bytes are answered as the line is
pub first_32 : {A : Type 0} (f : List ℕ → A) (x : A) → ((s : List ℕ) → 32 ≤ length s → f s ≡ x) → (s : List ℕ) → f (take 32 s) ≡ f s
first_32 {A} f x long s = go (leb (length s) 32) refl
  where
    go : (b : Bool) → leb (length s) 32 ≡ b → f (take 32 s) ≡ f s
    go true p = ap f (take_all 32 s (leb-true _ _ p))
    go false p =
        let l : 32 < length s = leb-false (length s) 32 p in
        long (take 32 s) (rw (length-take-le 32 s (omega arith)) (omega arith)) ∙ sym (long s (omega arith))
