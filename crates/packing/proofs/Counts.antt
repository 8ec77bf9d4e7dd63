-- Which pairs of bytes are read as a record, and how many they are.
use Prim.Native.Nat.{ℕ, zero, suc, ◌+◌, ◌%◌, ◌<◌}
use mathlib.Core.Path.{◌≡◌, refl, sym, ap, ap₂, ◌∙◌}
use mathlib.Core.Bool.{Bool, true, false, cond, ◌&&◌}
use mathlib.Core.List.{List, [], ◌∷◌}
use native.Mathlib.Nat.{zero-add}
use native.Mathlib.Omega.{arith}
use borrow.Author.Tests.{ne_eqb, leb-true, leb-false}
use lib.Dec.{eqb, leb}
use Rattle.rates.specs.declared.answer.Refusal.TheVariants.{PaddingSet}
use Rattle.lag.specs.declared.pitch.PitchRecord.TheVariants.{Absent}
use Rattle.packing.specs.Readings.{refused_reading, reading}
use Rattle.packing.specs.Pairs.{sum_below, pairs_with, as_present, as_absent}
use Rattle.packing.specs.declared.read.Reading.{Reading}
use Rattle.packing.proofs.ByBytes.{done, present_in, absent_read, present_read}

-- A test of a reading, by the two bytes: what it says of absence, presence and a refusal decides it.
by_bytes : (test : Reading → Bool) (a b : ℕ) → a < 256 → b < 256 →
    test (reading (a ∷ b ∷ [])) ≡
    cond (leb 128 a) (cond (eqb (b % 32) 0) (test (done (present_in a b) 2)) (test (refused_reading PaddingSet)))
    (cond (eqb a 0) (test (done Absent 1)) (test (refused_reading PaddingSet)))
by_bytes test a b u v = go (leb 128 a) refl
  where
    part : (c : Bool) (x y : Reading) → test (cond c x y) ≡ cond c (test x) (test y)
    part true x y = refl
    part false x y = refl

    go : (present : Bool) → leb 128 a ≡ present → test (reading (a ∷ b ∷ [])) ≡
        cond present (cond (eqb (b % 32) 0) (test (done (present_in a b) 2)) (test (refused_reading PaddingSet)))
        (cond (eqb a 0) (test (done Absent 1)) (test (refused_reading PaddingSet)))
    go true p = ap test (present_read a b [] (leb-true 128 a p) u v) ∙ part (eqb (b % 32) 0) (done (present_in a b) 2) (refused_reading PaddingSet)
    go false p = ap test (absent_read a (b ∷ []) (leb-false 128 a p)) ∙ part (eqb a 0) (done Absent 1) (refused_reading PaddingSet)

same : (c x : Bool) → cond c x x ≡ x
same true x = refl
same false x = refl

-- present: the highest bit of the first byte is set and the lowest five of the second are not
pub present_exactly : (a b : ℕ) → a < 256 → b < 256 → as_present (reading (a ∷ b ∷ [])) ≡ (leb 128 a && eqb (b % 32) 0)
present_exactly a b u v = by_bytes as_present a b u v ∙ go (leb 128 a) (eqb (b % 32) 0) (eqb a 0)
  where
    go : (p c z : Bool) → cond p (cond c true false) (cond z false false) ≡ (p && c)
    go true true z = refl
    go true false z = refl
    go false c z = same z false

-- absent: the first byte is 00
pub absent_exactly : (a b : ℕ) → a < 256 → b < 256 → as_absent (reading (a ∷ b ∷ [])) ≡ eqb a 0
absent_exactly a b u v = by_bytes as_absent a b u v ∙ go (leb 128 a) refl (eqb (b % 32) 0) (eqb a 0) refl
  where
    go : (p : Bool) → leb 128 a ≡ p → (c z : Bool) → eqb a 0 ≡ z → cond p (cond c false false) (cond z true false) ≡ z
    go true p c z e = same c false ∙ sym (ne_eqb a 0 (λ h. absurd (omega (arith, h, leb-true 128 a p)))) ∙ e
    go false p c true e = refl
    go false p c false e = refl

same_sum : (n : ℕ) (f g : ℕ → ℕ) → ((i : ℕ) → i < n → f i ≡ g i) → sum_below n f ≡ sum_below n g
unfolding sum_below
same_sum zero f g h = refl
same_sum (suc n) f g h = ap₂ ◌+◌ (h n (omega arith)) (same_sum n f g (λ i l. h i (omega (arith, l))))

no_sum : (n : ℕ) → sum_below n (λ (i : ℕ). 0) ≡ 0
unfolding sum_below
no_sum zero = refl
no_sum (suc n) = zero-add (sum_below n (λ (i : ℕ). 0)) ∙ no_sum n

-- pairs that a test of the first byte and a test of the second choose: so many for each first byte
counted : (test : List ℕ → Bool) (p q : ℕ → Bool) (n : ℕ) → ((a b : ℕ) → a < 256 → b < 256 → test (a ∷ b ∷ []) ≡ (p a && q b)) →
    sum_below 256 (λ (b : ℕ). cond (q b) 1 0) ≡ n → pairs_with test ≡ sum_below 256 (λ (a : ℕ). cond (p a) n 0)
counted test p q n h e =
    same_sum 256 (λ (a : ℕ). sum_below 256 (λ (b : ℕ). cond (test (a ∷ b ∷ [])) 1 0)) (λ (a : ℕ). cond (p a) n 0) (λ a u.
    same_sum 256 (λ (b : ℕ). cond (test (a ∷ b ∷ [])) 1 0) (λ (b : ℕ). cond (p a && q b) 1 0) (λ b v. ap (λ (x : Bool). cond x 1 0) (h a b u v))
    ∙ chosen (p a) ∙ ap (λ (k : ℕ). cond (p a) k 0) e)
  where
    chosen : (first : Bool) → sum_below 256 (λ (b : ℕ). cond (first && q b) 1 0) ≡ cond first (sum_below 256 (λ (b : ℕ). cond (q b) 1 0)) 0
    chosen true = refl
    chosen false = no_sum 256

-- Of the 65,536 pairs of bytes exactly 1,024 are read as a present record: 128 first bytes, and 8 second ones.
pub present_pairs : pairs_with (λ (bytes : List ℕ). as_present (reading bytes)) ≡ 1024
unfolding sum_below
present_pairs = counted (λ (bytes : List ℕ). as_present (reading bytes)) (λ (a : ℕ). leb 128 a) (λ (b : ℕ). eqb (b % 32) 0) 8 present_exactly refl

-- And exactly 256 as an absent one, which are those that begin with 00.
pub absent_pairs : pairs_with (λ (bytes : List ℕ). as_absent (reading bytes)) ≡ 256
unfolding sum_below
absent_pairs =
    counted (λ (bytes : List ℕ). as_absent (reading bytes)) (λ (a : ℕ). eqb a 0) (λ (b : ℕ). true) 256 (λ a b u v. absent_exactly a b u v ∙ any (eqb a 0)) refl
  where
    any : (x : Bool) → x ≡ (x && true)
    any true = refl
    any false = refl
