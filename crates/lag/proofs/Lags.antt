-- What follows from the definitions of the lag: it rises, it codes back to its index, and rescaled it never falls.
use Prim.Native.Nat.{ℕ, ◌+◌, ◌-◌, ◌*◌, ◌/◌, ◌%◌, ◌≤◌, ◌<◌, min, max}
use mathlib.Core.Path.{◌≡◌, refl}
use mathlib.Core.Bool.{Bool, true, false, cond}
use native.Mathlib.Nat.{mul-le-mul_left}
use native.Mathlib.Omega.{arith}
use borrow.Author.Tests.{leb-true, leb-false, ltb-true, ltb-false}
use lib.Dec.{leb, ltb}
use Rattle.lag.specs.Lag.{quarters, index_of, rescaled}

-- The three ranges of an index meet, and each is steeper than the one before: q is the largest of three lines, here moved up by 1132.
pub quarters_max : (i : ℕ) → quarters i + 1132 ≡ max (i + 1260) (max (2 * i + 880) (4 * i))
unfolding quarters
quarters_max i = go (leb i 379) (leb i 439) refl refl
  where
    go : (a b : Bool) → leb i 379 ≡ a → leb i 439 ≡ b →
        cond a (i + 128) (cond b (2 * i - 252) (4 * i - 1132)) + 1132 ≡ max (i + 1260) (max (2 * i + 880) (4 * i))
    go true b p q = omega (arith, leb-true i 379 p)
    go false true p q = omega (arith, leb-false i 379 p, leb-true i 439 q)
    go false false p q = omega (arith, leb-false i 379 p, leb-false i 439 q)

-- The encoder's three ranges flatten the same way: its index is the least of three lines, here moved up by 128.
pub index_min : (w f : ℕ) → 32 ≤ w → f ≤ 3 → index_of w f + 128 ≡ min (4 * w + f) (min (2 * w + f / 2 + 254) (w + 411))
unfolding index_of
index_min w f l h = go (ltb w 127) (leb w 156) refl refl
  where
    go : (a b : Bool) → ltb w 127 ≡ a → leb w 156 ≡ b →
        cond a (4 * w + f - 128) (cond b (2 * w + f / 2 + 126) (w + 283)) + 128 ≡ min (4 * w + f) (min (2 * w + f / 2 + 254) (w + 411))
    go true b p q = omega (arith, ltb-true w 127 p)
    go false true p q = omega (arith, ltb-false w 127 p, leb-true w 156 q)
    go false false p q = omega (arith, ltb-false w 127 p, leb-false w 156 q)

-- q rises strictly, from 128 to 912
pub quarters_rise : (i j : ℕ) → i < j → quarters i < quarters j
quarters_rise i j h = omega (arith, quarters_max i, quarters_max j)

pub quarters_range : (i : ℕ) → i ≤ 511 → (128 ≤ quarters i) × (quarters i ≤ 912)
quarters_range i h = omega (arith, quarters_max i)

pub quarters_ends : (quarters 0 ≡ 128) × (quarters 511 ≡ 912)
unfolding quarters
quarters_ends = (refl, refl)

-- index to unscaled lag to index is the identity
pub index_lag_index : (i : ℕ) → i ≤ 511 → index_of (quarters i / 4) (quarters i % 4) ≡ i
index_lag_index i h =
    omega (arith, quarters_max i, index_min (quarters i / 4) (quarters i % 4) (omega (arith, quarters_max i)) (omega arith))

-- The encoder's formula and the decoder's agree on every lag that an encoder may find: whole lags of 32 to 228 with all quarters
-- below 127, halves from 127 to 156, and none above.
pub lag_index_lag : (w f : ℕ) → 32 ≤ w → w ≤ 228 → f ≤ 3 → ((127 ≤ w) → f % 2 ≡ 0) → ((157 ≤ w) → f ≡ 0) → quarters (index_of w f) ≡ 4 * w + f
lag_index_lag w f l u h half none = go (leb 127 w) (leb 157 w) refl refl
  where
    facts : (quarters (index_of w f) + 1132 ≡ max (index_of w f + 1260) (max (2 * index_of w f + 880) (4 * index_of w f)))
        × (index_of w f + 128 ≡ min (4 * w + f) (min (2 * w + f / 2 + 254) (w + 411)))
    facts = (quarters_max (index_of w f), index_min w f l h)

    go : (a b : Bool) → leb 127 w ≡ a → leb 157 w ≡ b → quarters (index_of w f) ≡ 4 * w + f
    go true true p q = omega (arith, facts, leb-true 157 w q, none (leb-true 157 w q))
    go true false p q = omega (arith, facts, leb-true 127 w p, leb-false 157 w q, half (leb-true 127 w p))
    go false true p q = omega (arith, leb-false 127 w p, leb-true 157 w q)
    go false false p q = omega (arith, facts, leb-false 127 w p)

-- rescaled, it never falls with the lag, nor with the index
pub rescaled_keeps_order : (r : ℕ) {p q : ℕ} → p ≤ q → rescaled r p ≤ rescaled r q
unfolding rescaled
rescaled_keeps_order r {p} {q} h = omega (arith, mul-le-mul_left (5 * r) h)

pub rescaled_never_falls : (r i j : ℕ) → i ≤ j → rescaled r (quarters i) ≤ rescaled r (quarters j)
rescaled_never_falls r i j h = rescaled_keeps_order r (omega (arith, quarters_max i, quarters_max j))

-- but it may stand still, as at 8000 Hz from index 1 to 2
pub rescaled_may_stand_still : rescaled 1 (quarters 1) ≡ rescaled 1 (quarters 2)
unfolding rescaled quarters
rescaled_may_stand_still = refl
