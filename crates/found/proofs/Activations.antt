-- What follows from the definitions of the activation: what its tests mean, and when the filter cannot be active.
use Prim.Native.Nat.{suc, ◌+◌, ◌*◌, ◌<◌}
use mathlib.Core.Path.{◌≡◌, refl, sym, ap}
use mathlib.Core.Bool.{Bool, true, false, cond, not, ◌&&◌, ◌||◌}
use native.Mathlib.Omega.{arith}
use borrow.Author.Tests.{lt-ltb}
use lib.IntN.{ℤ, pos, negsuc}
use lib.Pow.{pow_pos}
use lib.Ieee.{Float, nan, inf, fin, lt, neg, down, up, round, of_int}
use Rattle.floats.specs.Single.{◌⊖◌, decimal, float}
use Rattle.found.specs.Activation.{magnitude, starts, stays, active_of}
use Rattle.found.specs.declared.activation.Memory.{Memory}

down_positive : (e : ℤ) → 0 < down e
down_positive (pos k) = omega arith
down_positive (negsuc k) = pow_pos (suc k)

and_true : (b : Bool) → (b && true) ≡ b
and_true true = refl
and_true false = refl

-- a float is smaller than 2.0 without its sign where it lies between -2.0 and 2.0
pub between : (d : Float) → lt (magnitude d) (float 2) ≡ (lt (neg (float 2)) d && lt d (float 2))
unfolding lt neg of_int round
between nan = refl
between (inf true) = refl
between (inf false) = refl
between (fin false m e) = rw (lt-ltb 0 (2 * down e + m * up e * 1) (omega (arith, down_positive e)))
between (fin true m e) = rw (lt-ltb 0 (m * up e * 1 + 2 * down e) (omega (arith, down_positive e)), and_true)

or-false : (b : Bool) → (b || false) ≡ b
or-false true = refl
or-false false = refl

-- the decision in one formula: started, or still high, or still near
pub one_formula : (memory : Memory) (gain_on near_nyquist ten_ms : Bool) (nc pitch : Float) →
    let a = memory.mem_ltpf_active in
    let high = lt (decimal 9 1) nc in
    let near = lt (magnitude (pitch ⊖ memory.mem_pitch)) (float 2) && (lt (neg (decimal 1 1)) (nc ⊖ memory.mem_nc) && lt (decimal 84 2) nc) in
    active_of memory gain_on near_nyquist ten_ms nc pitch ≡ ((gain_on && not near_nyquist) && ((not a && starts memory nc ten_ms) || ((a && high) || (a && near))))
unfolding active_of stays
one_formula memory gain_on near_nyquist ten_ms nc pitch =
    ap (λ b. (gain_on && not near_nyquist) && b) (go memory.mem_ltpf_active (starts memory nc ten_ms) (lt (decimal 9 1) nc) _)
  where
    go : (a start high near : Bool) → cond a (high || near) start ≡ ((not a && start) || ((a && high) || (a && near)))
    go true start high near = refl
    go false start high near = sym (or-false start)
