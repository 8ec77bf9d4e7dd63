-- The resampler's sums side by side: each of the sixteen is the sum of its own output's taps.
use Prim.Native.Nat.{ℕ, zero, suc, ◌+◌, ◌-◌, ◌*◌, ◌/◌, ◌%◌, ◌≤◌, ◌<◌}
use mathlib.Core.Path.{◌≡◌, refl, sym, ◌∙◌, ap, subst}
use mathlib.Core.Bool.{Bool, true, false, cond}
use mathlib.Core.List.{List}
use native.Mathlib.Nat.{mul_assoc, add-mul-div_left, add-mul-mod_self_left, div-add-mod', mod-lt, div-mul-le_self, le-div_iff_mul-le, div-le_of_le-mul, div-lt_iff_lt-mul}
use native.Mathlib.Numerals.{add-one}
use native.Mathlib.Omega.{arith}
use borrow.Author.Tests.{ltb-true, ltb-false, lt-ltb, le-ltb}
use lib.Dec.{ltb}
use lib.Ieee.{Float}
use lib.ListN.{length}
use Rattle.floats.specs.Single.{◌⊕◌, ◌⊗◌, at}
use Rattle.lanes.specs.Lanes.{row_added, Lane, place, lane, listed}
use Rattle.lanes.proofs.EachLane.{place_few, lane_all, lane_row, placed_eight, each_place, lane_at}
use Rattle.slices.specs.Written.{written}
use Rattle.resampling.specs.Resample.{used, entry, taps}
use Rattle.resampling.specs.Rows.{Spread, tap_lanes, Phases}
use Rattle.slices.proofs.Written.{length_written, at_written_in, at_written_below}
use Rattle.lanes.proofs.Times.{times_comm}
use Rattle.slices.specs.Slices.{placed}
use Rattle.lanes.specs.declared.Lanes.{Lanes}

-- a row more
pub row_more : (f : ℕ → ℕ → Float) (rows more : List Float) (s : ℕ) → 16 * s + 16 ≤ length rows →
    ((t b : ℕ) → t < s → b < 16 → at rows (16 * t + b) ≡ f t b) → more ≡ written rows (16 * s) (f s) 16 →
    (t b : ℕ) → t < s + 1 → b < 16 → at more (16 * t + b) ≡ f t b
row_more f rows more s l g e t b h k = rw e (go (ltb t s) refl)
  where
    go : (u : Bool) → ltb t s ≡ u → at (written rows (16 * s) (f s) 16) (16 * t + b) ≡ f t b
    go true d = let below : t < s = ltb-true t s d in at_written_below rows (16 * s) (f s) 16 (16 * t + b) (omega arith) ∙ g t b below k
    go false d = let same : t ≡ s = omega (arith, ltb-false t s d) in rw same (at_written_in rows (16 * s) (f s) 16 b l k)

-- a tap more of one of the eight
lane_tap : (u : Bool) (l : Lane) (s : Lanes) (x : List Float) (i : ℕ) (c t v : Float) → i + 8 ≤ length x → lane l s ≡ t → at x (i + place l) ≡ v →
    lane l (cond u (row_added s c x i) s) ≡ cond u (t ⊕ v ⊗ c) t
lane_tap true l s x i c t v h e f = lane_row l s c x i h ∙ rw (e, f, times_comm c v)
lane_tap false l s x i c t v h e f = e

-- a turn of the loop: a tap that is used is added to the eight, and any other leaves them
module _ (rows filter : List Float) (p n b j : ℕ) (s t : Lanes) (e : s ≡ tap_lanes rows filter p n b j) where
  pub tap_used : 15 * n % p < p * j → p * j < 240 + 15 * n % p → t ≡ row_added s (entry filter p n j) rows (16 * (15 * n / p + j) + b) → t ≡ tap_lanes rows filter p n b (j + 1)
  unfolding tap_lanes
  tap_used l h f = f ∙ rw (add-one, lt-ltb _ _ l, lt-ltb _ _ h, e)

  pub tap_after : 15 * n % p < p * j → 240 + 15 * n % p ≤ p * j → t ≡ s → t ≡ tap_lanes rows filter p n b (j + 1)
  unfolding tap_lanes
  tap_after l h f = f ∙ rw (add-one, lt-ltb _ _ l, le-ltb _ _ h) e

  pub tap_before : p * j ≤ 15 * n % p → t ≡ s → t ≡ tap_lanes rows filter p n b (j + 1)
  unfolding tap_lanes
  tap_before h f = f ∙ rw (add-one, le-ltb _ _ h) e

-- eight outputs further on the entries are the same, and the samples lie 120/p further on
module _ (p n b : ℕ) (low : 4 ≤ p) (divides : p * (120 / p) ≡ 120) where
  further : 15 * (n + 8 * b) ≡ 15 * n + p * (120 / p * b)
  further = let e : p * (120 / p * b) ≡ 120 * b = sym (mul_assoc p (120 / p) b) ∙ ap (λ (z : ℕ). z * b) divides in omega (arith, e)

  same_rest : 15 * (n + 8 * b) % p ≡ 15 * n % p
  same_rest = ap (λ (z : ℕ). z % p) further ∙ add-mul-mod_self_left (15 * n) p (120 / p * b)

  further_on : 15 * (n + 8 * b) / p ≡ 15 * n / p + 120 / p * b
  further_on = ap (λ (z : ℕ). z / p) further ∙ add-mul-div_left (15 * n) (120 / p * b) {y = p} (omega arith)

module _ (x filter rows : List Float) (p : ℕ) (low : 4 ≤ p) (divides : p * (120 / p) ≡ 120) (rowed : Spread x p rows) where
  -- the rows that are read
  rows_within : (240 / p ≤ 60) × (105 / p < 27)
  rows_within = (div-le_of_le-mul p (omega arith), (div-lt_iff_lt-mul {k = p} (omega arith)).1 (omega arith))

  tap_lane : (n : ℕ) → 15 * n / p ≤ 105 / p → (b : ℕ) → b ≤ 8 → (l : Lane) → place l < 8 → (j : ℕ) → j ≤ 240 / p + 1 →
      lane l (tap_lanes rows filter p n b j) ≡ taps x filter p (n + 8 * (b + place l)) j
  unfolding tap_lanes taps
  tap_lane n h b u l w zero k = lane_all l _
  tap_lane n h b u l w (suc j) k =
      let i : 60 - 240 / p + (15 * n / p + 120 / p * (b + place l)) + j ≡ 60 - 240 / p + (15 * n / p + j) + 120 / p * (b + place l) = omega arith in
      let r : 16 * (15 * n / p + j) + b + place l ≡ 16 * (15 * n / p + j) + (b + place l) = omega arith in
      let inside : 16 * (15 * n / p + j) + b + 8 ≤ length rows = omega (arith, rowed.long, rows_within) in
      rw (same_rest p n (b + place l) low divides, further_on p n (b + place l) low divides, i)
      (lane_tap (used p n j) l _ rows _ _ _ _ inside (tap_lane n h b u l w j (omega arith)) (rw r (rowed.entries (15 * n / p + j) (b + place l) (omega arith) (omega arith))))

  -- entry 16n + b is the sum of output n + 8b
  pub phase_at : (sums : List Float) → Phases rows filter p 8 sums → (n : ℕ) → n < 128 → at sums (n % 8 * 16 + n / 8) ≡ taps x filter p n (240 / p + 1)
  phase_at sums e n h = go (ltb (n / 8) 8) refl
    where
      d : n ≡ n / 8 * 8 + n % 8
      d = sym (div-add-mod' n 8)

      r : n % 8 < 8
      r = mod-lt n {m = 8} (omega arith)

      w : 15 * (n % 8) / p ≤ 105 / p
      w = (le-div_iff_mul-le {k = p} (omega arith)).1 (omega (arith, div-mul-le_self (15 * (n % 8)) p))

      half : (b : ℕ) → b ≤ 8 → (q : ℕ) → q < 8 → at (listed (tap_lanes rows filter p (n % 8) b (240 / p + 1))) q ≡ taps x filter p (n % 8 + 8 * (b + q)) (240 / p + 1)
      half b u = each_place (λ q. at (listed (tap_lanes rows filter p (n % 8) b (240 / p + 1))) q ≡ taps x filter p (n % 8 + 8 * (b + q)) (240 / p + 1)) (λ l. lane_at _ l ∙ tap_lane (n % 8) w b u l (place_few l) (240 / p + 1) (omega arith))

      go : (t : Bool) → ltb (n / 8) 8 ≡ t → at sums (n % 8 * 16 + n / 8) ≡ taps x filter p n (240 / p + 1)
      go true f =
          let q : n / 8 < 8 = ltb-true (n / 8) 8 f in
          let i : n % 8 * 16 + n / 8 ≡ 16 * (n % 8) + n / 8 = omega arith in
          let k : n % 8 + 8 * (0 + n / 8) ≡ n = omega arith in
          rw i (e.low (n % 8) (n / 8) r q ∙ half 0 (omega arith) (n / 8) q ∙ ap (λ (m : ℕ). taps x filter p m (240 / p + 1)) k)
      go false f =
          let q : n / 8 - 8 < 8 = omega arith in
          let g : 8 ≤ n / 8 = ltb-false (n / 8) 8 f in
          let i : n % 8 * 16 + n / 8 ≡ 16 * (n % 8) + 8 + (n / 8 - 8) = omega arith in
          let k : n % 8 + 8 * (8 + (n / 8 - 8)) ≡ n = omega arith in
          rw i (e.high (n % 8) (n / 8 - 8) r q ∙ half 8 (omega arith) (n / 8 - 8) q ∙ ap (λ (m : ℕ). taps x filter p m (240 / p + 1)) k)

-- sixteen sums more
pub phases_more : (rows filter : List Float) (p n : ℕ) (sums s t : List Float) (low high : Lanes) → n < 8 → Phases rows filter p n sums →
    low ≡ tap_lanes rows filter p n 0 (240 / p + 1) → high ≡ tap_lanes rows filter p n 8 (240 / p + 1) →
    s ≡ placed sums (16 * n) (listed low) → t ≡ placed s (16 * n + 8) (listed high) → Phases rows filter p (n + 1) t
phases_more rows filter p n sums s t low high h e f g put_low put-high = record { long = long; low = lows; high = highs }
  where
    a : s ≡ written sums (16 * n) (at (listed low)) 8
    a = put_low ∙ placed_eight sums (16 * n) low (omega (arith, e.long))

    long_s : length s ≡ 128
    long_s = ap length a ∙ length_written sums (16 * n) (at (listed low)) 8 ∙ e.long

    b : t ≡ written s (16 * n + 8) (at (listed high)) 8
    b = put-high ∙ placed_eight s (16 * n + 8) high (omega (arith, long_s))

    long : length t ≡ 128
    long = ap length b ∙ length_written s (16 * n + 8) (at (listed high)) 8 ∙ long_s

    before : (k : ℕ) → k < 16 * n + 8 → at t k ≡ at s k
    before k l = ap (λ (r : List Float). at r k) b ∙ at_written_below s (16 * n + 8) (at (listed high)) 8 k l

    first : (k : ℕ) → k < 16 * n → at t k ≡ at sums k
    first k l = before k (omega arith) ∙ ap (λ (r : List Float). at r k) a ∙ at_written_below sums (16 * n) (at (listed low)) 8 k l

    lows : (m c : ℕ) → m < n + 1 → c < 8 → at t (16 * m + c) ≡ at (listed (tap_lanes rows filter p m 0 (240 / p + 1))) c
    lows m c l k = go (ltb m n) refl
      where
        go : (u : Bool) → ltb m n ≡ u → at t (16 * m + c) ≡ at (listed (tap_lanes rows filter p m 0 (240 / p + 1))) c
        go true d = let below : m < n = ltb-true m n d in first (16 * m + c) (omega arith) ∙ e.low m c below k
        go false d =
            let same : m ≡ n = omega (arith, ltb-false m n d) in
            subst (λ (m : ℕ). at t (16 * m + c) ≡ at (listed (tap_lanes rows filter p m 0 (240 / p + 1))) c) (sym same)
            (before (16 * n + c) (omega arith) ∙ ap (λ (r : List Float). at r (16 * n + c)) a ∙ at_written_in sums (16 * n) (at (listed low)) 8 c (omega (arith, e.long)) k ∙ ap (λ (v : Lanes). at (listed v) c) f)

    highs : (m c : ℕ) → m < n + 1 → c < 8 → at t (16 * m + 8 + c) ≡ at (listed (tap_lanes rows filter p m 8 (240 / p + 1))) c
    highs m c l k = go (ltb m n) refl
      where
        go : (u : Bool) → ltb m n ≡ u → at t (16 * m + 8 + c) ≡ at (listed (tap_lanes rows filter p m 8 (240 / p + 1))) c
        go true d = let below : m < n = ltb-true m n d in first (16 * m + 8 + c) (omega arith) ∙ e.high m c below k
        go false d =
            let same : m ≡ n = omega (arith, ltb-false m n d) in
            subst (λ (m : ℕ). at t (16 * m + 8 + c) ≡ at (listed (tap_lanes rows filter p m 8 (240 / p + 1))) c) (sym same)
            (ap (λ (r : List Float). at r (16 * n + 8 + c)) b ∙ at_written_in s (16 * n + 8) (at (listed high)) 8 c (omega (arith, long_s)) k ∙ ap (λ (v : Lanes). at (listed v) c) g)
