-- `root::nearest_root` meets its contract: the whole root is rounded by what it leaves over. Assumes nothing.
use mathlib.Core.Path.{◌≡◌}
use Prim.Native.Nat.{ℕ, ◌%◌, ◌^◌, ◌<◌}
use native.Mathlib.Nat.{mod-eq_of_lt}
use native.Mathlib.Numerals.{add-one}
use native.Mathlib.Omega.{arith}
use Rattle.root.specs.Steps.{WholeRoot, Normalised}
use Rattle.root.proofs.Midpoint.{scaled, scaled_range, round_up, round_down}
use Rattle.root.proofs.nearest_root.Goals as goal

-- the shift loses nothing
unshifted : (a m k : ℕ) → Normalised a m k → scaled m k % 2 ^ 64 ≡ scaled m k
unshifted a m k norm = mod-eq_of_lt (omega (arith, scaled_range a m k norm))

shifted : (a m k : ℕ) → Normalised a m k → scaled m k % 2 ^ 64 < 2 ^ 48
shifted a m k norm = rw (unshifted a m k norm) (scaled_range a m k norm).1

whole : (a m k q : ℕ) → Normalised a m k → WholeRoot (scaled m k % 2 ^ 64) q → WholeRoot (scaled m k) q
whole a m k q norm w = rw (← unshifted a m k norm) w

pub whole_root-q-requires : goal.whole_root-q-requires
whole_root-q-requires c = shifted _ c.normalised-s.result.significand c.normalised-s.result.exponent c.normalised-s.ensures

pub returns-then-q-n : goal.returns-then-q-n
returns-then-q-n c =
    let s = c.normalised-s in
    let m = s.result.significand in
    let k = s.result.exponent in
    let q = c.whole_root-q.result in
    rw add-one (round_up _ m k q s.ensures (whole _ m k q s.ensures c.whole_root-q.ensures) (rw (unshifted _ m k s.ensures) at c.if-q-n.true))

pub returns-else-q-n : goal.returns-else-q-n
returns-else-q-n c =
    let s = c.normalised-s in
    let m = s.result.significand in
    let k = s.result.exponent in
    let q = c.whole_root-q.result in
    round_down _ m k q s.ensures (whole _ m k q s.ensures c.whole_root-q.ensures) (rw (unshifted _ m k s.ensures) at c.if-q-n.false)
