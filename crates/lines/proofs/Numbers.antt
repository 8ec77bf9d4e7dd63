-- Numbers as they are read: a text that is too long is malformed, and what is read stays below a power of ten.
use Prim.Native.Nat.{ℕ, suc, ◌+◌, ◌-◌, ◌*◌, ◌^◌, ◌≤◌, ◌<◌, min}
use mathlib.Core.Path.{◌≡◌, refl, sym}
use mathlib.Core.Bool.{Bool, true, false, cond, ◌&&◌, true≢false}
use mathlib.Core.List.{List, [], ◌∷◌}
use native.Mathlib.Nat.{pow-succ', pow-le-pow_right, add-zero}
use native.Mathlib.Numerals.{add-one}
use native.Mathlib.Omega.{arith}
use borrow.Author.Tests.{le-leb, lt-leb, ne_eqb, leb-true, leb-false, ltb-true}
use lib.Dec.{leb, lit<}
use lib.ListN.{length, length-drop}
use lib.Seq.{length-take-le}
use Rattle.std.proofs.Common.{Ok}
use Rattle.lines.specs.Fields.{tab_at, has_tab, before_tab, after_tab, malformed, digits_after, number_of, field_of}

-- more digits than may be
pub long_number : (most : ℕ) (s : List ℕ) → min most 9 < length s → number_of most s ≡ malformed
unfolding number_of
long_number most s h = rw (le-leb 1 (length s) (omega arith), lt-leb (length s) (min most 9) h)

pub long_field : (most : ℕ) (s : List ℕ) → 1 < length s → min most 9 < length s → field_of most s ≡ malformed
long_field most s l h = rw (ne_eqb (length s) 1 (λ e. omega arith), long_number most s h)

-- with a tab in more than a + 1 + b bytes, more than a stand before it or more than b after it
pub parted : {A : Type 0} (a b : ℕ) (s : List ℕ) (x y : A) → a + 1 + b < length s →
    (a < length (before_tab s) → x ≡ y) → (b < length (after_tab s) → x ≡ y) → cond (has_tab s) x y ≡ y
parted a b s x y h before after = go (has_tab s) refl
  where
    side : tab_at s < length s → (t : Bool) → leb (tab_at s) a ≡ t → x ≡ y
    side k true p = after (simp length-drop (omega (arith, leb-true (tab_at s) a p)))
    side k false p = before (rw (length-take-le (tab_at s) s (omega arith)) (leb-false (tab_at s) a p))

    go : (t : Bool) → has_tab s ≡ t → cond t x y ≡ y
    go true p = side (ltb-true _ _ p) (leb (tab_at s) a) refl
    go false p = refl

-- one digit more keeps the value below the next power of ten
pub below : (v d i : ℕ) → v < 10 ^ i → d ≤ 9 → 10 * v + d < 10 ^ (i + 1)
below v d i h k = rw (add-one, pow-succ') (omega arith)

digits_below : (s : List ℕ) (v i n : ℕ) → v < 10 ^ i → digits_after v s ≡ Ok n → n < 10 ^ (i + length s)
unfolding digits_after
digits_below [] v i n h e = let same : v ≡ n = cc in rw (← same, add-zero) h
digits_below (b ∷ bs) v i n h e = go (leb 48 b && leb b 57) refl (λ w k. digits_below bs w (i + 1) n k) e
  where
    digit : (x y : Bool) → (x && y) ≡ true → y ≡ true
    digit true y p = p
    digit false y p = absurd (true≢false (sym p))

    go : (t : Bool) → (leb 48 b && leb b 57) ≡ t → ((w : ℕ) → w < 10 ^ (i + 1) → digits_after w bs ≡ Ok n → n < 10 ^ (i + 1 + length bs)) →
        cond t (digits_after (10 * v + (b - 48)) bs) malformed ≡ Ok n → n < 10 ^ (i + suc (length bs))
    go false p rest q = let z : ◌≡◌ {A = ℕ} 0 1 = cc in absurd (omega arith)
    go true p rest q =
        let most : b ≤ 57 = leb-true b 57 (digit (leb 48 b) (leb b 57) p) in
        let same : i + suc (length bs) ≡ i + 1 + length bs = omega arith in
        rw same (rest (10 * v + (b - 48)) (below v (b - 48) i h (omega arith)) q)

-- so a number of at most nine digits is below 10 ^ 9
pub number_below : (most : ℕ) (s : List ℕ) (n : ℕ) → number_of most s ≡ Ok n → n < 10 ^ 9
unfolding number_of
number_below most s n e = go (leb 1 (length s)) (leb (length s) (min most 9)) refl e
  where
    go : (a b : Bool) → leb (length s) (min most 9) ≡ b → cond (a && b) (digits_after 0 s) malformed ≡ Ok n → n < 10 ^ 9
    go false b p q = let z : ◌≡◌ {A = ℕ} 0 1 = cc in absurd (omega arith)
    go true false p q = let z : ◌≡◌ {A = ℕ} 0 1 = cc in absurd (omega arith)
    go true true p q =
        let few = leb-true (length s) (min most 9) p in
        omega (arith, digits_below s 0 0 n (omega arith) q, pow-le-pow_right {n = 10} (lit< tt) {i = 0 + length s} {j = 9} (omega arith))
