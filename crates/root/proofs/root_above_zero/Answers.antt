-- `root::root_above_zero` meets its contract: +infinity has the pattern that the code tests for, and the pattern of any other float above zero has a nearest root. Assumes nothing.
use mathlib.Core.Path.{◌≡◌, refl, sym, ap, ◌∙◌, subst}
use mathlib.Core.Logic.{◌⊎◌, inl, inr, ⊎_elim}
use mathlib.Core.Bool.{true, false, not}
use Prim.Native.Nat.{ℕ}
use native.Mathlib.Omega.{arith}
use lib.Dec.{T}
use lib.Ieee.{Float, nan, inf, fin, binary32, fits, is_nan, to_bits, of_bits}
use lib.Ieee.Positive.{positive, above}
use Rattle.root.specs.SquareRoot.{root_square, root_bits, root_of}
use Rattle.std.proofs.Common.{Some}
use Rattle.root.proofs.Nearest.{nearest_unique}
use Rattle.root.proofs.Search.{root_bits_nearest}
use Rattle.root.proofs.Floats.{pattern_no_nan, positive_pattern, positive_root}
use Rattle.root.proofs.root_above_zero.Goals as goal

no_nan : (x : Float) → T (above x) → T (not (is_nan x))
unfolding is_nan
no_nan nan p = absurd p
no_nan (inf s) p = tt
no_nan (fin s m e) p = tt

infinite_or_not : (x : Float) → T (above x) → (x ≡ inf false) ⊎ T (positive x)
infinite_or_not nan p = absurd p
infinite_or_not (inf true) p = absurd p
infinite_or_not (inf false) p = inl refl
infinite_or_not (fin true m e) p = absurd p
infinite_or_not (fin false m e) p = inr p

infinity : (to_bits binary32 (inf false) ≡ 0x7f80_0000) × (root_of (inf false) ≡ Some (inf false))
unfolding to_bits root_of
infinity = (refl, refl)

-- a float above zero that has not the pattern of +infinity is finite
finite : (x : Float) → T (above x) → (to_bits binary32 x ≡ 0x7f80_0000 → ⊥) → T (positive x)
finite x p h = ⊎_elim (λ e. absurd (h (ap (to_bits binary32) e ∙ infinity.0))) (λ q. q) (infinite_or_not x p)

pub float_to_bits-a : goal.float_to_bits-a
float_to_bits-a c = no_nan c.args.x c.requires

pub returns-then-a-eq-INFINITY : goal.returns-then-a-eq-INFINITY
returns-then-a-eq-INFINITY c =
    let held : T (fits binary32 c.args.x) =
    subst T (sym c.well_formed.0.1) tt in
    let x = c.args.x in
    ⊎_elim (λ e. rw e infinity.1) (λ p. absurd (omega (arith, c.if-a-eq-INFINITY.true, (positive_pattern x held p).1))) (infinite_or_not x c.requires)

pub nearest_root-requires : goal.nearest_root-requires
nearest_root-requires c =
    let held : T (fits binary32 c.args.x) =
    subst T (sym c.well_formed.0.1) tt in
    positive_pattern c.args.x held (finite c.args.x c.requires c.if-a-eq-INFINITY.false)

pub float_from_bits-result : goal.float_from_bits-result
float_from_bits-result c = rw (pattern_no_nan c.nearest_root.result c.nearest_root.ensures.finite) tt

pub returns : goal.returns
returns c =
    let held : T (fits binary32 c.args.x) =
    subst T (sym c.well_formed.0.1) tt in
    let x = c.args.x in
    let a = to_bits binary32 x in
    let p = finite x c.requires c.if-a-eq-INFINITY.false in
    let r = positive_pattern x held p in
    positive_root x p ∙ ap (λ (b : ℕ). Some (of_bits binary32 b)) (nearest_unique (root_square a) (root_bits a) c.nearest_root.result (root_bits_nearest a r.0 r.1) c.nearest_root.ensures)
