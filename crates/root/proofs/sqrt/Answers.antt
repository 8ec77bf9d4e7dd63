-- `root::sqrt` meets its contract: by its two tests x is a zero, above zero, or one that has no root. Assumes nothing.
use mathlib.Core.Path.{◌≡◌, refl, sym, subst}
use mathlib.Core.Bool.{true, false, beq, ◌||◌, true≢false, false≢true}
use Prim.Native.Nat.{zero, suc, ◌*◌}
use native.Mathlib.Nat.{zero-lt-suc, mul-pos, zero-mul}
use native.Mathlib.Omega.{arith}
use lib.Dec.{T, eqb, eqb→eq, lt→ltb}
use lib.Ieee.{Float, nan, inf, fin, binary32, up, down, eq, lt, of_bits}
use lib.Ieee.Fits.{up_pos, and_l}
use lib.Ieee.Positive.{above, first_pos}
use borrow.Author.Tests.{ltb-true, ltb-false}
use Rattle.root.specs.SquareRoot.{root_of}
use Rattle.std.proofs.Common.{Some, None}
use Rattle.root.proofs.sqrt.Goals as goal

-- the constant 0.0
abbrev nought : Float
nought = of_bits binary32 0

equals_zero : (x : Float) → eq x nought ≡ true → root_of x ≡ Some x
unfolding eq of_bits root_of
equals_zero nan h = absurd (false≢true h)
equals_zero (inf s) h = absurd (false≢true h)
equals_zero (fin s zero e) h = refl
equals_zero (fin s (suc m) e) h =
    let a = suc m * up e * 1 in
    let z : a ≡ 0 * down e = eqb→eq a (0 * down e) (and_l (eqb a (0 * down e)) (beq s false || eqb a 0) (subst T (sym h) tt)) in
    absurd (omega (arith, mul-pos (zero-lt-suc m) (up_pos e)))

above_zero : (x : Float) → lt nought x ≡ true → T (above x)
unfolding lt of_bits
above_zero nan h = absurd (false≢true h)
above_zero (inf true) h = absurd (false≢true h)
above_zero (inf false) h = tt
above_zero (fin true m e) h = absurd (false≢true h)
above_zero (fin false m e) h = lt→ltb 0 m (first_pos m (up e) (omega (arith, ltb-true (0 * down e) (m * up e * 1) h)))

neither : (x : Float) → eq x nought ≡ false → lt nought x ≡ false → root_of x ≡ None
unfolding eq lt of_bits root_of
neither nan h k = refl
neither (inf true) h k = refl
neither (inf false) h k = absurd (true≢false k)
neither (fin true zero e) h k = absurd (true≢false (simp zero-mul at h))
neither (fin false zero e) h k = absurd (true≢false (simp zero-mul at h))
neither (fin true (suc m) e) h k = refl
neither (fin false (suc m) e) h k = absurd (omega (arith, mul-pos (zero-lt-suc m) (up_pos e), ltb-false (0 * down e) (suc m * up e * 1) k))

pub returns-then-x : goal.returns-then-x
returns-then-x c = sym (equals_zero c.args.x c.if-x.true)

pub root_above_zero-requires : goal.root_above_zero-requires
root_above_zero-requires c = above_zero c.args.x c.if-x-2.true

pub returns-then-x-2 : goal.returns-then-x-2
returns-then-x-2 c = sym c.root_above_zero.ensures

pub returns : goal.returns
returns c = sym (neither c.args.x c.if-x.false c.if-x-2.false)
