-- The signals of a silent frame after silence are silent: every sum of theirs is 0.0.
use Prim.Native.Nat.{ℕ, zero, suc, ◌+◌, ◌-◌, ◌*◌, ◌/◌, ◌%◌, ◌≤◌, ◌<◌}
use mathlib.Core.Path.{◌≡◌, refl, sym}
use mathlib.Core.Bool.{Bool, true, false, cond, true≢false}
use mathlib.Core.List.{List, [], ◌∷◌}
use native.Mathlib.Nat.{zero-mul, div-le_of_le-mul}
use native.Mathlib.Omega.{arith}
use borrow.Author.Tests.{ltb-true}
use lib.IntN.{pos}
use lib.Dec.{ltb}
use lib.ListN.{length, replicate, length-replicate, get_or-replicate}
use lib.Ieee.{Float, nan, inf, fin, add, sub, mul, round, neg, of_int, up, down}
use lib.Ieee.Fits.{down_pos}
use Rattle.floats.specs.Single.{◌⊕◌, ◌⊗◌, 0·0, at, finite, all_finite}
use Rattle.lanes.specs.Sums.{window}
use Rattle.signals.specs.Straight.{sampled}
use Rattle.resampling.specs.Resample.{used, sample, entry, taps, scale, resampled}
use Rattle.signals.specs.HighPass.{memories, passed, high_passed}
use Rattle.signals.specs.Halving.{five_taps, halved}
use Rattle.signals.specs.Signals.{Signals, at_rate, at12p8, at6p4, signals_of}
use Rattle.signals.specs.declared.highpass.HighPass.{HighPass}
use Rattle.rates.specs.declared.lengths.Lengths.{Lengths}
use Rattle.rates.proofs.Sizes.{Sized}
use Rattle.rates.proofs.Known.{both}
use Rattle.lanes.proofs.Times.{round_zero}
use Rattle.signals.proofs.Silent.{Silent, Still, silent_written, silent_laid, still_window}

-- 0.0 times a number is a zero, with the number's sign
zero_times : (s : Bool) (m : ℕ) (e : _) → 0·0 ⊗ fin s m e ≡ fin s 0 (pos 0)
unfolding mul
zero_times true m e = round_zero true (0 * (m * up e)) (1 * down e) (omega (arith, down_pos e)) (zero-mul (m * up e))
zero_times false m e = round_zero false (0 * (m * up e)) (1 * down e) (omega (arith, down_pos e)) (zero-mul (m * up e))

-- which leaves a sum of 0.0 as it is
pub adds_nothing : (y : Float) → finite y ≡ true → 0·0 ⊕ 0·0 ⊗ y ≡ 0·0
unfolding add
adds_nothing nan f = absurd (true≢false (sym f))
adds_nothing (inf s) f = absurd (true≢false (sym f))
adds_nothing (fin true m e) f = rw (zero_times true m e)
adds_nothing (fin false m e) f = rw (zero_times false m e)

-- a number without a sign
abbrev pub plain : Float → Bool
plain nan = false
plain (inf s) = false
plain (fin true m e) = false
plain (fin false m e) = true

plain_times : (y : Float) → plain y ≡ true → 0·0 ⊗ y ≡ 0·0
plain_times nan f = absurd (true≢false (sym f))
plain_times (inf s) f = absurd (true≢false (sym f))
plain_times (fin true m e) f = absurd (true≢false (sym f))
plain_times (fin false m e) f = zero_times false m e

-- an entry of a list of numbers is one
finite_at : (xs : List Float) (i : ℕ) → all_finite xs ≡ true → i < length xs → finite (at xs i) ≡ true
finite_at [] i f h = absurd (omega arith)
finite_at (x ∷ xs) zero f h = (both (finite x) (all_finite xs) f).0
finite_at (x ∷ xs) (suc i) f h = finite_at xs i (both (finite x) (all_finite xs) f).1 (omega arith)

-- a set to resample with: 239 numbers, and a step of the table
pub record Resampler (filter : List Float) (p : ℕ) : Type 0 where
  pub long : length filter ≡ 239
  pub numbers : all_finite filter ≡ true
  pub step : (4 ≤ p) × (p ≤ 24)
  pub factor : plain (scale p) ≡ true

module _ (x filter : List Float) (p n : ℕ) (quiet : Silent 540 x) (set : Resampler filter p) (few : n < 128) where
  still_taps : (j : ℕ) → j ≤ 240 / p + 1 → taps x filter p n j ≡ 0·0
  unfolding taps
  still_taps zero h = refl
  still_taps (suc j) h = go (used p n j) refl (still_taps j (omega arith))
    where
      go : (b : Bool) → used p n j ≡ b → taps x filter p n j ≡ 0·0 →
          cond b (taps x filter p n j ⊕ sample x p n j ⊗ entry filter p n j) (taps x filter p n j) ≡ 0·0
      go false e before = before
      go true e before =
          let tests = both (ltb (15 * n % p) (p * j)) (ltb (p * j) (240 + 15 * n % p)) e in
          let low : 15 * n % p < p * j = ltb-true _ _ tests.0 in
          let high : p * j < 240 + 15 * n % p = ltb-true _ _ tests.1 in
          let last : 15 * n / p ≤ 477 = div-le_of_le-mul p (omega arith) in
          let count : 240 / p ≤ 60 = div-le_of_le-mul p (omega arith) in
          rw (before, quiet.still (60 - 240 / p + 15 * n / p + j) (omega arith))
          (adds_nothing (entry filter p n j) (finite_at filter _ set.numbers (omega (arith, set.long))))

  still_resampled : resampled x filter p n ≡ 0·0
  unfolding resampled
  still_resampled = rw (still_taps (240 / p + 1) (omega arith)) (plain_times (scale p) set.factor)

-- the high-pass at rest
abbrev pub rest : HighPass
rest = record { h50_minus1 = 0·0; h50_minus2 = 0·0 }

resting : (x : ℕ → Float) (n : ℕ) → Still n x → memories rest x n ≡ rest
unfolding memories add sub mul round neg
resting x zero z = refl
resting x (suc n) z = rw (resting x n (λ i l. z i (omega arith)), z n (omega arith))

still_passed : (x : ℕ → Float) (n : ℕ) → Still n x → Still n (passed rest x)
unfolding add sub mul round neg
still_passed x n z i l = rw (resting x i (λ k m. z k (omega arith)), z i l)

still_halved : (x : List Float) (start m : ℕ) → Silent 404 x → 3 ≤ start → start + 2 * m + 2 ≤ 404 → halved x start m ≡ 0·0
unfolding five_taps add mul round
still_halved x start m quiet low high =
    let first = start - 3 + 2 * m in
    rw (
      quiet.still first (omega arith),
      quiet.still (first + 1) (omega arith),
      quiet.still (first + 2) (omega arith),
      quiet.still (first + 3) (omega arith),
      quiet.still (first + 4) (omega arith),
    )

still_samples : (n : ℕ) → Still n (sampled (replicate n (pos 0)))
unfolding of_int
still_samples n i h = rw (get_or-replicate n i (pos 0) (pos 0) h)

pub record SilentSignals (s : Signals) : Type 0 where
  pub input : Silent 540 s.x_s
  pub at_12p8 : Silent 404 s.x_12p8
  pub at_6p4 : Silent 178 s.x_6p4
  pub resting : s.h50 ≡ rest

pub silent_signals : (past past12p8 past6p4 : List Float) (h : HighPass) (p nf : ℕ) (l : Lengths) (filter : List Float) →
    Silent 60 past → Silent 276 past12p8 → Silent 114 past6p4 → h ≡ rest → Resampler filter p → Sized l → nf ≤ 480 →
    SilentSignals (signals_of past past12p8 past6p4 h p l filter (replicate nf (pos 0)))
unfolding at_rate at12p8 high_passed at6p4
silent_signals past past12p8 past6p4 h p nf l filter quiet quiet12p8 quiet6p4 resting-h set size few =
    let x = at_rate past (replicate nf (pos 0)) in
    let x_silent : Silent 540 x =
    silent_written 540 _ 60 _ (length (replicate nf (pos 0))) (silent_laid 60 540 _ 0 60 quiet (omega arith))
    (rw (length-replicate nf (pos 0)) (still_samples nf)) in
    let r = at12p8 past12p8 x filter p l.len12p8 in
    let r_silent : Silent 404 r =
    silent_written 404 _ 276 _ l.len12p8 (silent_laid 276 404 _ 0 276 quiet12p8 (omega arith))
    (λ n h. still_resampled x filter p n x_silent set (omega arith)) in
    let new : Still l.len12p8 (window r 276) = still_window 404 r 276 l.len12p8 r_silent (omega arith) in
    let y_silent : Silent 404 (high_passed h r l.len12p8) =
    rw resting-h (silent_written 404 r 276 _ l.len12p8 r_silent (still_passed (window r 276) l.len12p8 new)) in
    record {
      input = x_silent;
      at_12p8 = y_silent;
      at_6p4 = silent_written 178 _ 114 _ l.len6p4 (silent_laid 114 178 _ 0 114 quiet6p4 (omega arith))
          (λ m h. still_halved _ l.start m y_silent (omega arith) (omega arith));
      resting = rw resting-h (resting (window r 276) l.len12p8 new);
    }
