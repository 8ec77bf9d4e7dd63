-- Eight outputs that are made side by side are the next eight, each made of all those before it.
use Prim.Native.Nat.{ℕ, zero, suc, ◌+◌, ◌-◌, ◌/◌, ◌≤◌, ◌<◌}
use mathlib.Core.Path.{◌≡◌, refl, sym, ◌∙◌}
use mathlib.Core.List.{List}
use native.Mathlib.Nat.{add-zero}
use native.Mathlib.Omega.{arith}
use lib.ListN.{length, take}
use lib.Seq.{get_or-take, length-take-le}
use lib.Ieee.{Float, nan}
use Rattle.floats.specs.Single.{◌⊖◌, ◌⊗◌, 0·0, at}
use Rattle.lanes.specs.Lanes.{all, listed, fir_added, joined, Lane, l0, l1, l2, l3, l4, l5, l6, l7, place, lane, added, taken}
use Rattle.lanes.specs.declared.Lanes.{Lanes}
use Rattle.lanes.proofs.EachLane.{place_few, by_lanes, lane_all, fir_added_lem, fir_taken_lem}
use Rattle.filter.specs.Filter.{num_sum, den_sum, F}
use Rattle.filter.specs.Fade.{grow, grown, steady, faded, factor}
use Rattle.slices.specs.Slices.{placed}
use Rattle.slices.proofs.Stored.{placed_stored}
use Rattle.filter.specs.Blocks.{sums, less, weighed, weighed_in, next_in, padded}
use Rattle.filter.specs.Kept.{used_num, used_den, nearest}
use Rattle.filter.specs.Required.{Inside}
use Rattle.coefficients.specs.Coefficients.{Filter}
use Rattle.filter.specs.declared.fade.Direction.{Direction}
use Rattle.std.proofs.Common.{Option, Some, None}
use Rattle.filter.proofs.Growing.{length_outputs, length_grown, take_grow, take_made, grown_after}
use Rattle.filter.proofs.Reading.{F-take}
use Rattle.filter.proofs.Padded.{at_padded}

lane_less : (l : Lane) (x : List Float) (i : ℕ) (s : Lanes) → lane l (less x i s) ≡ at x (i + place l) ⊖ lane l s
lane_less l0 x i s = rw add-zero
lane_less l1 x i s = refl
lane_less l2 x i s = refl
lane_less l3 x i s = refl
lane_less l4 x i s = refl
lane_less l5 x i s = refl
lane_less l6 x i s = refl
lane_less l7 x i s = refl

lane_weighed : (l : Lane) (direction : Direction) (fade n : ℕ) (s : Lanes) → lane l (weighed direction fade n s) ≡ lane l s ⊗ factor direction fade (n + place l)
lane_weighed l0 direction fade n s = rw add-zero
lane_weighed l1 direction fade n s = refl
lane_weighed l2 direction fade n s = refl
lane_weighed l3 direction fade n s = refl
lane_weighed l4 direction fade n s = refl
lane_weighed l5 direction fade n s = refl
lane_weighed l6 direction fade n s = refl
lane_weighed l7 direction fade n s = refl

-- the first terms of both sums, with the coefficients that are used
num_lane : (num x : List Float) (used missing i n : ℕ) → n ≤ used → n ≤ i + 1 →
    added (λ k. at (take used num) k ⊗ at x (i - k)) 0·0 n ≡ num_sum num (padded missing x) (missing + i) n
unfolding joined num_sum
num_lane num x used missing i zero u h = refl
num_lane num x used missing i (suc n) u h =
    let e : missing + i - n ≡ missing + (i - n) = omega arith in
    rw (num_lane num x used missing i n (omega arith) (omega arith), get_or-take used num n nan u, e, at_padded missing x (i - n))

den_lane : (start : Float) (den y : List Float) (used i n : ℕ) → n ≤ used →
    taken (λ k. at (take used den) k ⊗ at y (i - k)) start n ≡ den_sum start den y i n
unfolding joined den_sum
den_lane start den y used i zero u = refl
den_lane start den y used i (suc n) u = rw (den_lane start den y used i n (omega arith), get_or-take used den n nan u)

-- a filter that can be computed after a history
pub record Usable (t : Filter) (history : ℕ) : Type 0 where
  pub inside : Inside t history
  pub nums : length (used_num t) ≡ t.l_den - 1
  pub dens : length (used_den t) ≡ t.l_den + 1

module _ (t : Filter) (history : ℕ) (u : Usable t history) (x : List Float) (n : ℕ) (hx : 16 + n + 8 ≤ length x) where
  lane_sums : (y : List Float) → history + n ≤ length y → (l : Lane) →
      lane l (sums (used_num t) (used_den t) x (16 + n) y (history + n - nearest t)) ≡ F t (padded (history - 16) x) y (history + n + place l)
  unfolding sums F
  lane_sums y hy l =
      let few = place_few l in
      let ix : history - 16 + (16 + n + place l) ≡ history + n + place l = omega arith in
      let iy : history + n - nearest t + place l ≡ history + n + place l + t.l_den / 2 - t.lag = omega arith in
      fir_taken_lem l (fir_added (all 0·0) (used_num t) x (16 + n)) (used_den t) y (history + n - nearest t) (omega arith) (omega arith)
      ∙ rw (
        fir_added_lem l (all 0·0) (used_num t) x (16 + n) hx (omega arith),
        lane_all l 0·0,
        u.nums,
        u.dens,
        num_lane t.c_num x (t.l_den - 1) (history - 16) (16 + n + place l) (t.l_den - 1) (omega arith) (omega arith),
        ix,
        iy,
        den_lane _ t.c_den y (t.l_den + 1) (history + n + place l + t.l_den / 2 - t.lag) (t.l_den + 1) (omega arith),
      )

  -- the sums read outputs that are there already, so they are those of the next output, and of each after it
  F-lane : (y v : List Float) (l : Lane) → history + n ≤ length y → take (history + n) y ≡ take (history + n) v →
      lane l (sums (used_num t) (used_den t) x (16 + n) y (history + n - nearest t)) ≡ F t (padded (history - 16) x) v (history + n + place l)
  F-lane y v l hy same =
      let near : history + n + place l + t.l_den / 2 - t.lag < history + n = omega (arith, place_few l) in
      lane_sums y hy l
      ∙ sym (F-take t (padded (history - 16) x) y (history + n + place l) (history + n) near)
      ∙ rw same (F-take t (padded (history - 16) x) v (history + n + place l) (history + n) near)

  -- A line y whose first samples have k outputs after them. A block begins after m of these, and makes eight.
  module _ (f : List Float → Float) (y : List Float) (first m k : ℕ) (e : first + m ≡ history + n) (mk : m ≤ k) (km : k ≤ m + 8)
      (h : first + (m + 8) ≤ length y) where
    -- the outputs before a lane's
    abbrev made : Lane → List Float
    made l = grow f (take first y) (m + place l)

    made_long : (l : Lane) → length (made l) ≡ history + n + place l
    made_long l = omega (arith, length_outputs f y first (m + place l) (omega (arith, place_few l)))

    x_made : (l : Lane) → at x (16 + n + place l) ≡ at (padded (history - 16) x) (length (made l))
    x_made l =
        let ix : history - 16 + (16 + n + place l) ≡ length (made l) = omega (arith, made_long l) in
        sym (at_padded (history - 16) x (16 + n + place l)) ∙ rw ix

    F-made : (l : Lane) →
        lane l (sums (used_num t) (used_den t) x (16 + n) (grown f y first k) (history + n - nearest t)) ≡
        F t (padded (history - 16) x) (made l) (length (made l))
    F-made l =
        let there : first + k ≤ length y = omega arith in
        let front : take (history + n) (grown f y first k) ≡ grow f (take first y) m = rw (← e) (take_made f y first k there m mk) in
        let same = take_grow f (take first y) m (m + place l) (history + n) (omega arith) (omega (arith, length-take-le first y (omega arith))) in
        rw (made_long l) (F-lane (grown f y first k) (made l) l (omega (arith, length_grown f y first k there)) (front ∙ sym same))

    block : (s : Lanes) → ((l : Lane) → lane l s ≡ f (made l)) → placed (grown f y first k) (history + n) (listed s) ≡ grown f y first (m + 8)
    unfolding listed
    block s lanes =
        placed_stored (grown f y first k) (listed s) (history + n) (omega (arith, length_grown f y first k (omega arith)))
        ∙ rw (← e) (grown_after f y first m k (listed s) mk km h (by_lanes s (λ j. f (grow f (take first y) (m + j))) lanes))

  -- a block of a run
  run_made : (fading : Option Direction) (fade : ℕ) (y : List Float) (first m k : ℕ) → first + m ≡ history + n → m ≤ k → k ≤ m + 8 → first + (m + 8) ≤ length y →
      let line = grown (next_in fading history fade t (padded (history - 16) x)) y first k in
      placed line (history + n)
      (listed (less x (16 + n) (weighed_in fading fade n (sums (used_num t) (used_den t) x (16 + n) line (history + n - nearest t))))) ≡
      grown (next_in fading history fade t (padded (history - 16) x)) y first (m + 8)
  unfolding steady faded
  run_made None fade y first m k e mk km h =
      let f = steady t (padded (history - 16) x) in
      block f y first m k e mk km h _ (λ l. rw (lane_less l, x_made f y first m k e mk km h l, F-made f y first m k e mk km h l))
  run_made (Some direction) fade y first m k e mk km h =
      let f = faded direction history fade t (padded (history - 16) x) in
      block f y first m k e mk km h _
      (λ l.
      let in_fade : length (grow f (take first y) (m + place l)) - history ≡ n + place l = omega (arith, made_long f y first m k e mk km h l) in
      rw (lane_less l, lane_weighed l, x_made f y first m k e mk km h l, F-made f y first m k e mk km h l, in_fade))

  -- the same, by what a turn of the loop has made on the way
  pub turn_made : (fading : Option Direction) (fade : ℕ) (y : List Float) (first m k next : ℕ) → first + m ≡ history + n → m ≤ k → k ≤ m + 8 → first + (m + 8) ≤ length y →
      (num den line line' : List Float) (back : ℕ) (filt faded out : Lanes) → num ≡ used_num t → den ≡ used_den t → back ≡ nearest t → next ≡ m + 8 →
      line ≡ grown (next_in fading history fade t (padded (history - 16) x)) y first k →
      filt ≡ sums num den x (16 + n) line (history + n - back) → faded ≡ weighed_in fading fade n filt → out ≡ less x (16 + n) faded →
      line' ≡ placed line (history + n) (listed out) → line' ≡ grown (next_in fading history fade t (padded (history - 16) x)) y first next
  turn_made fading fade y first m k next e mk km h num den line line' back filt faded out en ed eb ex el ef ew eo es =
      es ∙ rw (eo, ew, ef, en, ed, eb, el, ex) (run_made fading fade y first m k e mk km h)
