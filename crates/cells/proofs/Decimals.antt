-- A number's text: its last digit after the text of the rest, and never more than 20 bytes for 64 bits.
use Prim.Native.Nat.{ℕ, zero, suc, ◌+◌, ◌/◌, ◌%◌, ◌^◌, ◌≤◌, ◌<◌}
use mathlib.Core.Path.{◌≡◌, refl, ap, ◌∙◌}
use mathlib.Core.Bool.{Bool, true, false, cond}
use mathlib.Core.List.{[], ◌∷◌, ◌++◌}
use native.Mathlib.Nat.{pow-succ'}
use native.Mathlib.Omega.{arith}
use borrow.Author.Tests.{lt-ltb, le-ltb, ltb-true, ltb-false}
use lib.Dec.{ltb}
use lib.ListN.{length, length-append}
use Rattle.cells.specs.Decimal.{digits, decimal}

-- more digits than needed change nothing
enough : (f g n : ℕ) → n < f → n < g → digits f n ≡ digits g n
unfolding digits
enough zero g n h k = absurd (omega arith)
enough (suc f) zero n h k = absurd (omega arith)
enough (suc f) (suc g) n h k = go (λ m. enough f g m) (ltb n 10) refl
  where
    go : ((m : ℕ) → m < f → m < g → digits f m ≡ digits g m) → (b : Bool) → ltb n 10 ≡ b →
        cond b [] (digits f (n / 10)) ++ ((48 + n % 10) ∷ []) ≡ cond b [] (digits g (n / 10)) ++ ((48 + n % 10) ∷ [])
    go same true p = refl
    go same false p = let t : 10 ≤ n = ltb-false n 10 p in rw (same (n / 10) (omega arith) (omega arith))

pub decimal_one : (n : ℕ) → n < 10 → decimal n ≡ (48 + n) ∷ []
unfolding decimal
decimal_one n h = let e : n % 10 ≡ n = omega arith in rw (lt-ltb n 10 h, e)

pub decimal_more : (n : ℕ) → 10 ≤ n → decimal n ≡ decimal (n / 10) ++ ((48 + n % 10) ∷ [])
unfolding decimal
decimal_more n h = rw (le-ltb n 10 h, enough n (suc (n / 10)) (n / 10) (omega arith) (omega arith))

pub length_one : (n : ℕ) → n < 10 → length (decimal n) ≡ 1
length_one n h = ap length (decimal_one n h)

pub length_more : (n : ℕ) → 10 ≤ n → length (decimal n) ≡ length (decimal (n / 10)) + 1
length_more n h = ap length (decimal_more n h) ∙ simp length-append

-- n below 10 ^ (k + 1) has at most k + 1 digits
pub decimal_short : (k n : ℕ) → n < 10 ^ suc k → length (decimal n) ≤ suc k
decimal_short zero n h = omega (arith, length_one n h)
decimal_short (suc k) n h = go (λ m. decimal_short k m) (ltb n 10) refl
  where
    go : ((m : ℕ) → m < 10 ^ suc k → length (decimal m) ≤ suc k) → (b : Bool) → ltb n 10 ≡ b → length (decimal n) ≤ suc (suc k)
    go shorter true p = omega (arith, length_one n (ltb-true n 10 p))
    go shorter false p =
        let low : n / 10 < 10 ^ suc k = omega (arith, rw (pow-succ' 10 (suc k)) at h) in
        omega (arith, length_more n (ltb-false n 10 p), shorter (n / 10) low)

pub decimal_64 : (n : ℕ) → n < 2 ^ 64 → length (decimal n) ≤ 20
decimal_64 n h = decimal_short 19 n (omega arith)
