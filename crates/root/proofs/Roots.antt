-- `root_of`, which is what `root::sqrt` gives, against `IsRoot`, the definition by midpoints: it gives a root exactly where there is one, and there is one at most. Assumes nothing.
use mathlib.Core.Path.{◌≡◌, refl, sym, ap, ◌∙◌, subst}
use mathlib.Core.Bool.{Bool, true, false, not}
use Prim.Native.Nat.{ℕ, zero, suc, ◌+◌, ◌-◌, ◌*◌, ◌≤◌, ◌<◌}
use native.Mathlib.Nat.{le_trans, zero-lt-suc}
use native.Mathlib.Omega.{arith}
use lib.IntN.{ℤ}
use lib.Dec.{T, lt→ltb}
use lib.Ieee.{Float, nan, inf, fin, binary32, fits, is_nan, to_bits, of_bits}
use lib.Ieee.Bits.{of_bits-to_bits, of_bits-fits, nan_bits_is}
use lib.Ieee.Positive.{positive}
use Rattle.root.specs.SquareRoot.{units, mid_square, root_square, Nearest, IsRoot, root_bits, root_of}
use Rattle.std.proofs.Common.{Some, None}
use Rattle.root.proofs.Order.{square_le}
use Rattle.root.proofs.Units.{units_le}
use Rattle.root.proofs.Nearest.{nearest_unique}
use Rattle.root.proofs.Search.{root_bits_nearest}
use Rattle.root.proofs.Floats.{pattern_no_nan, pattern_back, positive_pattern, positive_root}

pub none_found : {v : Float} → None ≡ Some v → ⊥
none_found {v} h = let z : ◌≡◌ {A = ℕ} 0 1 = cc in omega arith

pub same_found : {v w : Float} → Some v ≡ Some w → v ≡ w
same_found h = cc

pub above_zero : (m : ℕ) (e : ℤ) → T (positive (fin false (suc m) e))
above_zero m e = lt→ltb 0 (suc m) (zero-lt-suc m)

-- the root of a float that is finite and above zero, by the patterns
pub positive_nearest : (x v : Float) → T (fits binary32 x) → T (positive x) → root_of x ≡ Some v → T (fits binary32 v) × Nearest (root_square (to_bits binary32 x)) (to_bits binary32 v)
positive_nearest x v f p h =
    let a = to_bits binary32 x in
    let r = positive_pattern x f p in
    let n = root_bits_nearest a r.0 r.1 in
    let e : of_bits binary32 (root_bits a) ≡ v = same_found (sym (positive_root x p) ∙ h) in
    (subst (λ (y : Float). T (fits binary32 y)) e (of_bits-fits binary32 (root_bits a)), subst (Nearest (root_square a)) (sym (pattern_back (root_bits a) n.finite) ∙ ap (to_bits binary32) e) n)

-- What `root_of` gives is a root.
pub root_nearest : (x v : Float) → T (fits binary32 x) → root_of x ≡ Some v → IsRoot x v
unfolding IsRoot root_of
root_nearest nan v f h = none_found h
root_nearest (inf true) v f h = none_found h
root_nearest (inf false) v f h = sym (same_found h)
root_nearest (fin true zero e) v f h = sym (same_found h)
root_nearest (fin false zero e) v f h = sym (same_found h)
root_nearest (fin true (suc m) e) v f h = none_found h
root_nearest (fin false (suc m) e) v f h = positive_nearest (fin false (suc m) e) v f (above_zero m e) h

-- At most one float is the root of x.
pub root_unique : (x v w : Float) → IsRoot x v → IsRoot x w → v ≡ w
unfolding IsRoot
root_unique nan v w p q = absurd p
root_unique (inf true) v w p q = absurd p
root_unique (inf false) v w p q = p ∙ sym q
root_unique (fin true zero e) v w p q = p ∙ sym q
root_unique (fin false zero e) v w p q = p ∙ sym q
root_unique (fin true (suc m) e) v w p q = absurd p
root_unique (fin false (suc m) e) v w p q =
    sym (of_bits-to_bits binary32 v p.0) ∙ ap (of_bits binary32) (nearest_unique _ (to_bits binary32 v) (to_bits binary32 w) p.1 q.1) ∙ of_bits-to_bits binary32 w q.0

-- Where a float is the root of x, `root_of` gives it.
pub root_exists : (x v : Float) → T (fits binary32 x) → IsRoot x v → root_of x ≡ Some v
unfolding IsRoot root_of
root_exists nan v f p = absurd p
root_exists (inf true) v f p = absurd p
root_exists (inf false) v f p = ap Some (sym p)
root_exists (fin true zero e) v f p = ap Some (sym p)
root_exists (fin false zero e) v f p = ap Some (sym p)
root_exists (fin true (suc m) e) v f p = absurd p
root_exists (fin false (suc m) e) v f p =
    let x = fin false (suc m) e in
    ap Some (root_unique x (of_bits binary32 (root_bits (to_bits binary32 x))) v (root_nearest x _ f refl) p)

-- Where `root_of` gives none, no float is the root of x.
pub root_none : (x v : Float) → T (fits binary32 x) → root_of x ≡ None → IsRoot x v → ⊥
root_none x v f h p = none_found (sym h ∙ root_exists x v f p)

-- how a float can have a root
pub data Rooted : Float → Float → Type 0 where
  a_zero : (s : Bool) (e : ℤ) → Rooted (fin s zero e) (fin s zero e)
  above : {x v : Float} → T (positive x) → Rooted x v
  infinite : Rooted (inf false) (inf false)

pub rooted : (x v : Float) → root_of x ≡ Some v → Rooted x v
unfolding root_of
rooted nan v h = absurd (none_found h)
rooted (inf true) v h = absurd (none_found h)
rooted (inf false) v h = subst (Rooted (inf false)) (same_found h) infinite
rooted (fin true zero e) v h = subst (Rooted (fin true zero e)) (same_found h) (a_zero true e)
rooted (fin false zero e) v h = subst (Rooted (fin false zero e)) (same_found h) (a_zero false e)
rooted (fin true (suc m) e) v h = absurd (none_found h)
rooted (fin false (suc m) e) v h = above (above_zero m e)

-- A root is no NaN, so that it has a bit pattern.
pub root_no_nan : (x v : Float) → T (fits binary32 x) → root_of x ≡ Some v → T (not (is_nan v))
unfolding is_nan
root_no_nan x v f h = go (rooted x v h) f h
  where
    go : {x v : Float} → Rooted x v → T (fits binary32 x) → root_of x ≡ Some v → T (not (is_nan v))
    go (a_zero s e) f h = tt
    go infinite f h = tt
    go {x} {v} (above p) f h =
        let n = positive_nearest x v f p h in
        rw (ap is_nan (sym (of_bits-to_bits binary32 v n.0)) ∙ sym (nan_bits_is binary32 (to_bits binary32 v)) ∙ pattern_no_nan (to_bits binary32 v) n.1.finite) tt

-- No float is nearer: of any other float c, the midpoint with b lies on the far side of the root, or at it.
pub root_closest : (n b c : ℕ) → Nearest n b → (c < b → (units c + units b) * (units c + units b) ≤ n) × (b < c → n ≤ (units b + units c) * (units b + units c))
unfolding mid_square
root_closest n b c p = (
  λ l.
      let e : suc (b - 1) ≡ b = omega arith in
      le_trans (square_le (omega (arith, units_le {b = c} {c = b - 1} (omega arith)))) (rw e at p.low),
  λ l. le_trans p.high (square_le (omega (arith, units_le {b = suc b} {c = c} (omega arith)))),
)
