-- `correlate_inside` sums over the windows of all lags side by side, and turns them round.
use Prim.Native.Nat.{ℕ, ◌+◌, ◌-◌, ◌/◌, ◌≤◌, ◌<◌}
use mathlib.Core.Path.{◌≡◌, refl, ap, ◌∙◌}
use mathlib.Core.List.{List}
use native.Mathlib.Nat.{div-add-mod', mod-lt}
use native.Mathlib.Omega.{arith}
use lib.Ieee.{Float}
use lib.ListN.{length}
use Rattle.floats.specs.Single.{at}
use Rattle.lanes.specs.Sums.{product_sum, window}
use Rattle.search.specs.Blocks.{eight}
use Rattle.search.specs.Correlate.{correlated}
use Rattle.search.proofs.Listed.{turned}
use Rattle.search.proofs.Blocks.{length_three, three_in}
use Rattle.search.proofs.correlate.correlate_inside.Goals as goal

-- three times eight entries fill n of them, where n is 8 to 24
filled : (f : ℕ → Float) (r : List Float) (n : ℕ) → length r ≡ n → 8 ≤ n → n ≤ 24 →
    let s = eight f (n - 8) (eight f ((n - 8) / 2) (eight f 0 r)) in (length s ≡ n) × ((k : ℕ) → k < n → at s k ≡ f k)
filled f r n l lo hi =
    let d = div-add-mod' (n - 8) 2 in
    let m = mod-lt (n - 8) {m = 2} (omega arith) in (
      length_three f 0 _ _ r (omega arith) (omega (arith, d)) (omega arith) ∙ l,
      λ k h. three_in f 0 _ _ r (omega arith) (omega (arith, d)) (omega arith) k (omega arith) (omega (arith, d)) (omega (arith, d, m)) (omega arith),
    )

pub returns : goal.returns
unfolding correlated
returns c =
    let a = c.args in
    let n = length a.r.now in
    let sum : ℕ → Float = λ i. product_sum (window a.x.now a.start) (window a.x.now (a.start + 1 - (a.from + n) + i)) a.len in
    let s = filled sum a.r.now n refl c.requires.in_bounds.0 (omega (arith, c.requires)) in
    let e = c.put_sums.ensures in
    c.reverse.ensures.after
    ∙ turned sum _ c.put_sums.new.r n (ap length e ∙ s.0) (λ k h. ap (λ (t : List Float). at t k) e ∙ s.1 k h)
    (λ k h. let i : a.start + 1 - (a.from + n) + (n - 1 - k) ≡ a.start - (a.from + k) = omega (arith, c.requires) in rw i)
