-- Laws of eight entries at once: what they set, what they leave, and that eight sums side by side are eight sums.
use Prim.Native.Nat.{ℕ, ◌+◌, ◌-◌, ◌≤◌, ◌<◌}
use mathlib.Core.Path.{◌≡◌, refl, sym, ◌∙◌, ap, subst}
use mathlib.Core.Bool.{Bool, true, false}
use mathlib.Core.List.{List}
use native.Mathlib.Omega.{arith}
use borrow.Author.Tests.{ltb-true, ltb-false}
use lib.Dec.{ltb}
use lib.Ieee.{Float}
use lib.ListN.{length, take, drop, length-take, length-drop}
use lib.Seq.{get_or-take, get_or-drop}
use Rattle.floats.specs.Single.{at}
use Rattle.lanes.specs.Lanes.{Lane, place, from_zero, three_correlated, listed}
use Rattle.lanes.proofs.EachLane.{from_zero_added, each_place, lane_at, placed_eight}
use Rattle.lanes.specs.Sums.{product_sum, window}
use Rattle.slices.specs.Written.{written}
use Rattle.search.specs.Blocks.{eight}
use Rattle.slices.proofs.Written.{length_written, at_written, at_written_in, at_written_below, written_same}
use Rattle.lanes.proofs.Sums.{sum_added}
use Rattle.lanes.specs.declared.Three.{Three}
use Rattle.lanes.proofs.ThreeSums.{three_summed}
use Rattle.slices.specs.Slices.{placed}

module _ (f : ℕ → Float) (i : ℕ) (r : List Float) where
  pub length_eight : length (eight f i r) ≡ length r
  unfolding eight
  length_eight = length_written r i (λ n. f (i + n)) 8

  pub eight_in : (k : ℕ) → i + 8 ≤ length r → i ≤ k → k < i + 8 → at (eight f i r) k ≡ f k
  unfolding eight
  eight_in k l a b =
      let e : i + (k - i) ≡ k = omega arith in
      rw e at (at_written_in r i (λ n. f (i + n)) 8 (k - i) l (omega arith))

  -- an entry that is f's stays so
  pub eight_kept : (k : ℕ) → i + 8 ≤ length r → at r k ≡ f k → at (eight f i r) k ≡ f k
  unfolding eight
  eight_kept k l e = go (ltb k i) refl
    where
      above : (b : Bool) → ltb k (i + 8) ≡ b → i ≤ k → at (eight f i r) k ≡ f k
      above true h a = eight_in k l a (ltb-true k (i + 8) h)
      above false h a = at_written r i (λ n. f (i + n)) 8 k (ltb-false k (i + 8) h) ∙ e

      go : (b : Bool) → ltb k i ≡ b → at (eight f i r) k ≡ f k
      go true h = at_written_below r i (λ n. f (i + n)) 8 k (ltb-true k i h) ∙ e
      go false h = above (ltb k (i + 8)) refl (ltb-false k i h)

-- three times eight entries that follow each other, or overlap
module _ (f : ℕ → Float) (i j l : ℕ) (r : List Float) (p : i + 8 ≤ length r) (q : j + 8 ≤ length r) (w : l + 8 ≤ length r) where
  pub length_three : length (eight f l (eight f j (eight f i r))) ≡ length r
  length_three = length_eight f l (eight f j (eight f i r)) ∙ length_eight f j (eight f i r) ∙ length_eight f i r

  pub three_kept : (k : ℕ) → at r k ≡ f k → at (eight f l (eight f j (eight f i r))) k ≡ f k
  three_kept k e =
      eight_kept f l (eight f j (eight f i r)) k (omega (arith, length_eight f j (eight f i r), length_eight f i r))
      (eight_kept f j (eight f i r) k (omega (arith, length_eight f i r)) (eight_kept f i r k p e))

  pub three_in : (k : ℕ) → i ≤ k → j ≤ i + 8 → l ≤ j + 8 → k < l + 8 → at (eight f l (eight f j (eight f i r))) k ≡ f k
  three_in k a b c d = go (ltb k (i + 8)) refl
    where
      m : length (eight f i r) ≡ length r
      m = length_eight f i r

      n : length (eight f j (eight f i r)) ≡ length r
      n = length_eight f j (eight f i r) ∙ m

      after : (t : Bool) → ltb k (j + 8) ≡ t → i + 8 ≤ k → at (eight f l (eight f j (eight f i r))) k ≡ f k
      after true h g =
          let below : k < j + 8 = ltb-true k (j + 8) h in
          eight_kept f l (eight f j (eight f i r)) k (omega (arith, n)) (eight_in f j (eight f i r) k (omega (arith, m)) (omega arith) below)
      after false h g = let above : j + 8 ≤ k = ltb-false k (j + 8) h in eight_in f l (eight f j (eight f i r)) k (omega (arith, n)) (omega arith) d

      go : (t : Bool) → ltb k (i + 8) ≡ t → at (eight f l (eight f j (eight f i r))) k ≡ f k
      go true h =
          let below : k < i + 8 = ltb-true k (i + 8) h in
          eight_kept f l (eight f j (eight f i r)) k (omega (arith, n)) (eight_kept f j (eight f i r) k (omega (arith, m)) (eight_in f i r k p a below))
      go false h = after (ltb k (j + 8)) refl (ltb-false k (i + 8) h)

-- eight sums over neighbouring windows
module _ (x : List Float) (a b len : ℕ) (fits : a + len ≤ length x) where
  pub window_length : length (take len (drop a x)) ≡ len
  window_length = simp (length-take, length-drop) (omega arith)

  sums_at : (i : ℕ) (j : Lane) →
      at (listed (from_zero (take len (drop a x)) x (b + i) len)) (place j) ≡ product_sum (window x a) (window x (b + (i + place j))) len
  sums_at i j =
      lane_at (from_zero (take len (drop a x)) x (b + i) len) j
      ∙ from_zero_added j (take len (drop a x)) x (b + i) len
      ∙ sum_added _ _ _ len
      (λ m l. let e : b + i + m + place j ≡ b + (i + place j) + m = omega arith in rw (e, get_or-take, get_or-drop))

  -- written over eight entries
  put_sums : (i n : ℕ) (r : List Float) → n ≡ len →
      written r i (at (listed (from_zero (take len (drop a x)) x (b + i) n))) 8 ≡ eight (λ k. product_sum (window x a) (window x (b + k)) len) i r
  unfolding eight
  put_sums i n r e =
      subst (λ (z : ℕ). written r i (at (listed (from_zero (take len (drop a x)) x (b + i) z))) 8 ≡ eight (λ k. product_sum (window x a) (window x (b + k)) len) i r)
      (sym e)
      (written_same r i _ _ 8 (each_place (λ k. at (listed (from_zero (take len (drop a x)) x (b + i) len)) k ≡ product_sum (window x a) (window x (b + (i + k))) len) (sums_at i)))

  -- and three times
  pub put_three : (i j k : ℕ) (r r₁ r₂ r₃ : List Float) (s : Three) →
      b + i + len + 7 ≤ length x → b + i + 8 ≤ length x → b + j + len + 7 ≤ length x → b + j + 8 ≤ length x → b + k + len + 7 ≤ length x → b + k + 8 ≤ length x → i + 8 ≤ length r → j + 8 ≤ length r → k + 8 ≤ length r →
      s ≡ three_correlated (take len (drop a x)) x (b + i) (b + j) (b + k) → r₁ ≡ placed r i (listed s.first) →
      r₂ ≡ placed r₁ j (listed s.second) → r₃ ≡ placed r₂ k (listed s.third) →
      r₃ ≡ eight (λ n. product_sum (window x a) (window x (b + n)) len) k
      (eight (λ n. product_sum (window x a) (window x (b + n)) len) j (eight (λ n. product_sum (window x a) (window x (b + n)) len) i r))
  put_three i j k r r₁ r₂ r₃ s p p' q q' w w' f g h e e₁ e₂ e₃ =
      let l = window_length in
      let t = e ∙ three_summed (take len (drop a x)) x (b + i) (b + j) (b + k) (omega arith, omega arith) (omega arith, omega arith) (omega arith, omega arith) in
      let f₁ = e₁ ∙ placed_eight r i s.first f ∙ ap (λ (t : Three). written r i (at (listed t.first)) 8) t ∙ put_sums i _ r l in
      let m = ap length f₁ ∙ length_eight _ i r in
      let f₂ = e₂ ∙ placed_eight r₁ j s.second (omega arith) ∙ ap (λ (t : Three). written r₁ j (at (listed t.second)) 8) t ∙ put_sums j _ r₁ l in
      let n = ap length f₂ ∙ length_eight _ j r₁ in
      let f₃ = e₃ ∙ placed_eight r₂ k s.third (omega arith) ∙ ap (λ (t : Three). written r₂ k (at (listed t.third)) 8) t ∙ put_sums k _ r₂ l in
      f₃ ∙ rw (f₂, f₁)
