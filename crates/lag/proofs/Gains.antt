-- What follows from the definitions of the gain.
use Rattle.lag.specs.declared.gain.Gain.{Gain}
use Rattle.std.proofs.Common.{Option, Some, None}
use Prim.Native.Nat.{ℕ, ◌+◌, ◌*◌, ◌≤◌}
use mathlib.Core.Path.{◌≡◌, refl}
use mathlib.Core.Bool.{Bool, true, false, cond}
use native.Mathlib.Omega.{arith}
use borrow.Author.Tests.{lt-ltb, ltb-true}
use lib.Dec.{ltb}
use Rattle.rates.specs.declared.duration.FrameDuration.TheVariants.{SevenPointFiveMs}
use Rattle.lag.specs.Gain.{bits_of, gain_of, may_activate, on}

-- At 7.5 ms three times the scaled bits are at most 1 away from 4·nbits: they are nbits·10/7.5 to the nearest whole number, with no tie.
pub bits_nearest : (n : ℕ) → (3 * bits_of SevenPointFiveMs n ≤ 4 * n + 1) × (4 * n ≤ 3 * bits_of SevenPointFiveMs n + 1)
unfolding bits_of
bits_nearest n = omega arith

-- 48000 Hz, 7.5 ms: 659 bits still have row 3, and 660 switch the gain off
pub last_bits : (gain_of 4 (bits_of SevenPointFiveMs 659) ≡ on 25 3) × (gain_of 4 (bits_of SevenPointFiveMs 660) ≡ None)
unfolding bits_of gain_of
last_bits = (refl, refl)

-- the encoder may activate exactly where the gain is not off
abbrev is_on : Option Gain → Bool
is_on None = false
is_on (Some g) = true

pub active_where_on : (i t : ℕ) → may_activate i t ≡ is_on (gain_of i t)
unfolding gain_of
active_where_on i t =
    go (ltb t (320 + 80 * i)) (ltb t (400 + 80 * i)) (ltb t (480 + 80 * i)) (ltb t (560 + 80 * i)) refl refl refl refl
  where
    go : (a b c d : Bool) → ltb t (320 + 80 * i) ≡ a → ltb t (400 + 80 * i) ≡ b → ltb t (480 + 80 * i) ≡ c → ltb t (560 + 80 * i) ≡ d →
        ltb t (560 + 80 * i) ≡ is_on (cond a (on 40 0) (cond b (on 35 1) (cond c (on 30 2) (cond d (on 25 3) None))))
    go true b c d p q r s = lt-ltb t (560 + 80 * i) (omega (arith, ltb-true t (320 + 80 * i) p))
    go false true c d p q r s = lt-ltb t (560 + 80 * i) (omega (arith, ltb-true t (400 + 80 * i) q))
    go false false true d p q r s = lt-ltb t (560 + 80 * i) (omega (arith, ltb-true t (480 + 80 * i) r))
    go false false false true p q r s = s
    go false false false false p q r s = s
