-- One buffer of both ears: it is its two halves in turn, two lists put in turn are taken apart again, and how long the halves are.
use Prim.Native.Nat.{ℕ, zero, suc, ◌+◌, ◌*◌, ◌≤◌, ◌<◌}
use mathlib.Core.Path.{◌≡◌, refl, sym, ◌∙◌, ap}
use mathlib.Core.List.{List, [], ◌∷◌}
use native.Mathlib.Omega.{arith}
use lib.Ieee.{Float, nan}
use lib.ListN.{length, set, get_or, drop}
use lib.Seq.{get_or-drop}
use Rattle.slices.proofs.Stored.{stored_last}
use Rattle.slices.proofs.Pasted.{pasted, one_pasted, all_pasted}
use Rattle.interleave.specs.Turns.{every_second, lefts, rights, in_turn}

-- after its first sample a buffer goes on with the other ear
pub lefts_next : (x : Float) (s : List Float) → lefts (x ∷ s) ≡ x ∷ rights s
unfolding every_second
lefts_next x [] = refl
lefts_next x (y ∷ s) = refl

turn_next : (x : Float) (a c : List Float) → in_turn (x ∷ a) c ≡ x ∷ in_turn c a
unfolding in_turn
turn_next x [] [] = refl
turn_next x (l ∷ a) [] = refl
turn_next x [] (r ∷ c) = refl
turn_next x (l ∷ a) (r ∷ c) = rw (turn_next l a c)

pub turned : (b : List Float) → in_turn (lefts b) (rights b) ≡ b
unfolding every_second in_turn
turned [] = refl
turned (x ∷ s) = rw (lefts_next x s, turn_next x (rights s) (lefts s), turned s)

-- the left list is as long as the right one, or one longer
pub taken_apart : (a c : List Float) → length c ≤ length a → length a ≤ length c + 1 → (lefts (in_turn a c) ≡ a) × (rights (in_turn a c) ≡ c)
unfolding every_second in_turn
taken_apart [] [] h k = (refl, refl)
taken_apart [] (r ∷ c) h k = absurd (omega arith)
taken_apart (l ∷ []) [] h k = (refl, refl)
taken_apart (l ∷ m ∷ a) [] h k = absurd (omega arith)
taken_apart (l ∷ a) (r ∷ c) h k =
    let rest = taken_apart a c (omega arith) (omega arith) in
    rw (lefts_next r (in_turn a c)) (ap (λ s. l ∷ s) rest.0, ap (λ s. r ∷ s) rest.1)

pub lengths : (b : List Float) →
    (length (lefts b) + length (rights b) ≡ length b) × (length (rights b) ≤ length (lefts b)) × (length (lefts b) ≤ length (rights b) + 1)
unfolding every_second
lengths [] = omega arith
lengths (x ∷ s) = let rest = lengths s in rw (lefts_next x s) (omega arith)

-- both halves of a buffer of 2 · k samples have k
pub halves : (b : List Float) (k : ℕ) → length b ≡ 2 * k → (length (lefts b) ≡ k) × (length (rights b) ≡ k)
halves b k e = let all = lengths b in (omega arith, omega arith)

-- entry i of an ear's samples
pub at_second : (i : ℕ) (s : List Float) → get_or (every_second s) i nan ≡ get_or s (2 * i) nan
unfolding every_second
at_second zero [] = refl
at_second zero (x ∷ []) = refl
at_second zero (x ∷ y ∷ s) = refl
at_second (suc i) [] = refl
at_second (suc i) (x ∷ []) = let e : 2 * suc i ≡ suc (suc (2 * i)) = omega arith in rw e refl
at_second (suc i) (x ∷ y ∷ s) = let e : 2 * suc i ≡ suc (suc (2 * i)) = omega arith in rw e (at_second i s)

pub at_right : (i : ℕ) (s : List Float) → get_or (rights s) i nan ≡ get_or s (2 * i + 1) nan
at_right i s = let e : 1 + 2 * i ≡ 2 * i + 1 = omega arith in at_second i (drop 1 s) ∙ rw e at (get_or-drop 1 s (2 * i) nan)

-- two lists of k entries in turn: how long they are, and where the entries stand
module _ (a c : List Float) (k : ℕ) (e : length a ≡ k) (f : length c ≡ k) where
  parted : (lefts (in_turn a c) ≡ a) × (rights (in_turn a c) ≡ c)
  parted = taken_apart a c (omega arith) (omega arith)

  pub turn_long : length (in_turn a c) ≡ 2 * k
  turn_long = omega (arith, rw (parted.0, parted.1) at (lengths (in_turn a c)).0)

  pub turn_left : (i : ℕ) → get_or (in_turn a c) (2 * i) nan ≡ get_or a i nan
  turn_left i = sym (rw parted.0 at (at_second i (in_turn a c)))

  pub turn_right : (i : ℕ) → get_or (in_turn a c) (2 * i + 1) nan ≡ get_or c i nan
  turn_right i = sym (rw parted.1 at (at_right i (in_turn a c)))

  -- one sample of each more is put back
  pub pair_pasted : (s : List Float) (i : ℕ) → length s ≡ 2 * k → i < k →
      set (set (pasted s 0 (in_turn a c) (2 * i)) (2 * i) (get_or a i nan)) (2 * i + 1) (get_or c i nan) ≡ pasted s 0 (in_turn a c) (2 * (i + 1))
  pair_pasted s i h l =
      let even : 0 + 2 * i ≡ 2 * i = omega arith in
      let odd : 0 + (2 * i + 1) ≡ 2 * i + 1 = omega arith in
      let next : 2 * i + 1 + 1 ≡ 2 * (i + 1) = omega arith in
      let left = rw (even, turn_left i) at (one_pasted s (in_turn a c) 0 (2 * i) (omega arith) (omega (arith, turn_long))) in
      let right = rw (odd, turn_right i, next) at (one_pasted s (in_turn a c) 0 (2 * i + 1) (omega arith) (omega (arith, turn_long))) in
      rw left right

  -- all of them are the buffer
  pub pairs_pasted : (s : List Float) → length s ≡ 2 * k → pasted s 0 (in_turn a c) (2 * k) ≡ in_turn a c
  pairs_pasted s h =
      all_pasted s 0 (in_turn a c) (2 * k) (sym turn_long) ∙ stored_last s (in_turn a c) 0 (omega (arith, turn_long))
