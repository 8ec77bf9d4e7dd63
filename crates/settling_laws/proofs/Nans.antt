-- What the filter gives where it reads a NaN, and where it reads nothing but 0.0.
use Prim.Native.Nat.{ℕ, zero, suc, ◌+◌, ◌-◌, ◌*◌, ◌/◌, ◌≤◌, ◌<◌}
use mathlib.Core.Path.{◌≡◌, refl, ◌∙◌, ap}
use mathlib.Core.Bool.{Bool, true, false}
use mathlib.Core.List.{List, [], ◌∷◌, ◌++◌, map}
use native.Mathlib.Nat.{mul-le-mul_right}
use native.Mathlib.Numerals.{add-one}
use native.Mathlib.Omega.{arith}
use borrow.Author.Tests.{ltb-true, ltb-false}
use lib.Dec.{ltb}
use lib.ListN.{length, take, drop, replicate, length-map, length-drop, length-replicate, get_or-replicate, get_or-append}
use lib.Seq.{length-take-le, get_or-append_seam, get_or-append-add, get_or-take, get_or-drop}
use lib.Ieee.{Float, nan, inf, fin, add, sub, mul, neg, round, sum}
use Rattle.std.proofs.lemmas.List.{get_or-map}
use Rattle.floats.specs.Single.{◌⊕◌, ◌⊖◌, ◌⊗◌, 0·0, at}
use Rattle.coefficients.specs.Coefficients.{row_of_set, scaled, Filter}
use Rattle.filter.specs.Filter.{num_sum, den_sum, F}
use Rattle.filter.specs.Fade.{faded, grow}
use Rattle.filter.specs.declared.fade.Direction.{Direction}
use Rattle.filter.proofs.Growing.{length_grow}

-- a NaN is kept by every operation
less_nan : (a : Float) → a ⊖ nan ≡ nan
unfolding sub add neg
less_nan nan = refl
less_nan (inf s) = refl
less_nan (fin s m e) = refl

times_nan : (a : Float) → a ⊗ nan ≡ nan
unfolding mul
times_nan nan = refl
times_nan (inf s) = refl
times_nan (fin s m e) = refl

nan_times : (a : Float) → nan ⊗ a ≡ nan
unfolding mul
nan_times a = refl

-- lists of nothing else; past its end a list has NaNs too
abbrev pub AllNan : List Float → Type 0
AllNan l = (i : ℕ) → at l i ≡ nan

pub nan_replicate : (n : ℕ) → AllNan (replicate n nan)
nan_replicate zero i = refl
nan_replicate (suc n) zero = refl
nan_replicate (suc n) (suc i) = nan_replicate n i

pub nan_append : (l r : List Float) → AllNan l → AllNan r → AllNan (l ++ r)
nan_append [] r h k i = k i
nan_append (x ∷ xs) r h k zero = h 0
nan_append (x ∷ xs) r h k (suc i) = nan_append xs r (λ j. h (suc j)) k i

pub nan_take : (n : ℕ) (l : List Float) → AllNan l → AllNan (take n l)
nan_take zero l h i = refl
nan_take (suc n) [] h i = refl
nan_take (suc n) (x ∷ xs) h zero = h 0
nan_take (suc n) (x ∷ xs) h (suc i) = nan_take n xs (λ j. h (suc j)) i

pub nan_drop : (n : ℕ) (l : List Float) → AllNan l → AllNan (drop n l)
nan_drop n l h i = get_or-drop n l i nan ∙ h (n + i)

nan_one : (v : Float) → v ≡ nan → AllNan (v ∷ [])
nan_one v e zero = e
nan_one v e (suc i) = refl

-- the filter gives a NaN where its last output, the oldest, is one
pub F-nan : (t : Filter) (x y : List Float) (i : ℕ) → at y (i + t.l_den / 2 - t.lag - t.l_den) ≡ nan → F t x y i ≡ nan
unfolding F den_sum
F-nan t x y i h = rw (add-one, h, times_nan) (less_nan _)

-- and so does a fade
pub faded_nan : (direction : Direction) (history fade : ℕ) (t : Filter) (x y : List Float) →
    at y (length y + t.l_den / 2 - t.lag - t.l_den) ≡ nan → faded direction history fade t x y ≡ nan
unfolding faded
faded_nan direction history fade t x y h = rw (F-nan t x y (length y) h, nan_times) (less_nan _)

-- outputs that are NaNs after NaNs
pub grow_nan : (f : List Float → Float) → ((y : List Float) → AllNan y → f y ≡ nan) → (p : List Float) → AllNan p → (n : ℕ) → AllNan (grow f p n)
unfolding grow
grow_nan f step p h zero = h
grow_nan f step p h (suc n) = let before = grow_nan f step p h n in nan_append (grow f p n) _ before (nan_one (f (grow f p n)) (step (grow f p n) before))

-- what has been made stays, and the first output made is that of the past
pub at_grown : (f : List Float → Float) (p : List Float) (n i : ℕ) → i < length p → at (grow f p n) i ≡ at p i
unfolding grow
at_grown f p zero i h = refl
at_grown f p (suc n) i h = get_or-append (grow f p n) _ nan i (omega (arith, length_grow f p n)) ∙ at_grown f p n i h

pub at_first : (f : List Float → Float) (p : List Float) (n : ℕ) → 0 < n → at (grow f p n) (length p) ≡ f p
unfolding grow
at_first f p zero h = absurd (omega arith)
at_first f p (suc zero) h = get_or-append_seam p (f p) [] nan
at_first f p (suc (suc n)) h = get_or-append (grow f p (suc n)) _ nan (length p) (omega (arith, length_grow f p (suc n))) ∙ at_first f p (suc n) (omega arith)

-- sums of products of 0.0
zero_added : 0·0 ⊕ 0·0 ⊗ 0·0 ≡ 0·0
unfolding add mul sum round
zero_added = refl

zero_taken : 0·0 ⊖ 0·0 ⊗ 0·0 ≡ 0·0
unfolding sub add neg mul sum round
zero_taken = refl

-- 0.0 at every index below a number
abbrev pub ZeroTo : ℕ → List Float → Type 0
ZeroTo n l = (i : ℕ) → i < n → at l i ≡ 0·0

num_sum_zero : (num x : List Float) (i k : ℕ) → ZeroTo k num → ZeroTo (i + 1) x → num_sum num x i k ≡ 0·0
unfolding num_sum
num_sum_zero num x i zero n z = refl
num_sum_zero num x i (suc k) n z =
    rw (num_sum_zero num x i k (λ j l. n j (omega arith)) z, n k (omega arith), z (i - k) (omega arith)) zero_added

den_sum_zero : (den y : List Float) (i k : ℕ) → ZeroTo k den → ZeroTo (i + 1) y → den_sum 0·0 den y i k ≡ 0·0
unfolding den_sum
den_sum_zero den y i zero n z = refl
den_sum_zero den y i (suc k) n z =
    rw (den_sum_zero den y i k (λ j l. n j (omega arith)) z, n k (omega arith), z (i - k) (omega arith)) zero_taken

-- the filter gives 0.0 where its coefficients and all that it reads are
pub F-zero : (t : Filter) (x y : List Float) (i : ℕ) → t.l_den / 2 + 1 ≤ t.lag → 0 < i →
    ZeroTo (t.l_den - 1) t.c_num → ZeroTo (t.l_den + 1) t.c_den → ZeroTo (i + 1) x → ZeroTo i y → F t x y i ≡ 0·0
unfolding F
F-zero t x y i l some n d zx zy =
    rw (num_sum_zero t.c_num x i (t.l_den - 1) n zx)
    (den_sum_zero t.c_den y (i + t.l_den / 2 - t.lag) (t.l_den + 1) d (λ j h. zy j (omega arith)))

-- 0.0 before a number of entries, and so after a list of 0.0
pub append_zero : (p s : List Float) (h n : ℕ) → length p ≡ h → ZeroTo h p → ZeroTo n s → ZeroTo (h + n) (p ++ s)
append_zero p s h n e zp zs i l = go (ltb i h) refl
  where
    go : (b : Bool) → ltb i h ≡ b → at (p ++ s) i ≡ 0·0
    go true q = let k : i < h = ltb-true i h q in get_or-append p s nan i (omega arith) ∙ zp i k
    go false q =
        let k : h ≤ i = ltb-false i h q in
        let split : i ≡ length p + (i - h) = omega arith in
        ap (at (p ++ s)) split ∙ get_or-append-add p s (i - h) nan ∙ zs (i - h) (omega arith)

pub moved_zero : (p s : List Float) (h n : ℕ) → length p ≡ h → ZeroTo h p → ZeroTo n s → ZeroTo h (drop n (p ++ s))
moved_zero p s h n e zp zs i l = get_or-drop n (p ++ s) i nan ∙ append_zero p s h n e zp zs (n + i) (omega arith)

-- a gain times a row of 0.0
pub scaled_zero : (size entries r : ℕ) (g : Float) → g ⊗ 0·0 ≡ 0·0 → r ≤ 3 →
    ZeroTo entries (scaled size g (row_of_set entries r (replicate (4 * entries) 0·0)))
scaled_zero size entries r g e few i l =
    let set = replicate (4 * entries) 0·0 in
    let start : r * entries ≤ 3 * entries = mul-le-mul_right entries few in
    let all : length set ≡ 4 * entries = length-replicate (4 * entries) 0·0 in
    let long : length (take entries (drop (r * entries) set)) ≡ entries = length-take-le entries (drop (r * entries) set) (simp length-drop (omega arith)) in
    get_or-append (map (λ v. g ⊗ v) (take entries (drop (r * entries) set))) _ nan i (rw (length-map (take entries (drop (r * entries) set)) (λ v. g ⊗ v), long) l)
    ∙ get_or-map (λ v. g ⊗ v) (take entries (drop (r * entries) set)) i nan nan (omega arith)
    ∙ rw (get_or-take entries (drop (r * entries) set) i nan l, get_or-drop (r * entries) set i nan, get_or-replicate (4 * entries) (r * entries + i) 0·0 nan (omega arith)) e
