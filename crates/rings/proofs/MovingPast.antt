-- The ring's laws: straightening gives the past, its newest samples stand before the frame or end the history, and storing a frame moves the past along by that frame.
use Prim.Native.Nat.{ℕ, ◌+◌, ◌-◌, ◌≤◌}
use mathlib.Core.Path.{◌≡◌, refl, ◌∙◌, ap}
use mathlib.Core.Bool.{Bool, true, false, cond}
use mathlib.Core.List.{List, ◌++◌, append_assoc, append-nil}
use native.Mathlib.Nat.{sub-zero}
use native.Mathlib.Omega.{arith}
use borrow.Author.Tests.{eqb-true, ne_eqb}
use lib.Dec.{eqb}
use lib.ListN.{length, take, drop, length-take, length-drop}
use lib.Seq.{take-add, drop-drop, drop-append-le, drop-append-add, length-take-le}
use lib.Ieee.{Float}
use Rattle.slices.specs.Slices.{stored, placed}
use Rattle.rings.specs.Ring.{straight, next_block, newest_end}
use Rattle.slices.proofs.Stored.{placed_stored, length_placed, before_stored, take_stored, drop_stored, length_stored, stored_last, drop_take}

-- the line that `straighten` fills, part by part, from the ring and the frame
pub straightened : (line line₁ line₂ line₃ ring frame : List Float) (history start : ℕ) →
    start ≤ history → history ≤ length ring → length line ≡ history + length frame →
    line₁ ≡ placed line 0 (take (history - start) (drop start ring)) →
    line₂ ≡ placed line₁ (history - start) (take start ring) →
    line₃ ≡ placed line₂ history frame →
    line₃ ≡ straight ring history start ++ frame
unfolding straight
straightened line line₁ line₂ line₃ ring frame history start s r h e₁ e₂ e₃ =
    let older = take (history - start) (drop start ring) in
    let newer = take start ring in
    let long : length older ≡ history - start = length-take-le (history - start) (drop start ring) (simp length-drop (omega arith)) in
    let all : history - start + length newer ≡ history = omega (arith, length-take-le start ring (omega arith)) in
    let long₁ : length line₁ ≡ length line = ap length e₁ ∙ length_placed line older 0 in
    let long₂ : length line₂ ≡ length line = ap length e₂ ∙ length_placed line₁ newer (history - start) ∙ long₁ in
    rw (
      e₃,
      placed_stored line₂ frame history (omega arith),
      stored_last line₂ frame history (omega arith),
      e₂,
      placed_stored line₁ newer (history - start) (omega arith),
      take_stored line₁ newer (history - start) history all (omega arith),
      e₁,
      placed_stored line older 0 (omega arith),
      take_stored line older 0 (history - start) (omega arith) (omega arith),
    )

-- the last 16 of the first samples
last_16 : (ring : List Float) (end k : ℕ) → k + 16 ≡ end → end ≤ length ring → drop k (take end ring) ≡ take 16 (drop k ring)
last_16 ring end k e l = rw (← e) (drop_take k 16 ring (omega arith))

-- of a frame at the ring's front the newest past ends the used history
newest_at_end : (ring frame : List Float) (history : ℕ) → 16 ≤ history → history ≤ length ring →
    drop (history - 16) (straight ring history 0 ++ frame) ≡ take 16 (drop (history - 16) ring) ++ frame
unfolding straight
newest_at_end ring frame history n h =
    rw (
      sub-zero,
      append-nil,
      drop-append-le (history - 16) (take history ring) frame (omega (arith, length-take-le history ring h)),
      last_16 ring history (history - 16) (omega arith) h,
    )

-- the line that `recent` fills
pub recently : (line line₁ line₂ ring : List Float) (history nf : ℕ) →
    16 ≤ history → history ≤ length ring → nf ≤ length ring → 16 + nf ≤ length line →
    line₁ ≡ placed line 0 (take 16 (drop (history - 16) ring)) →
    line₂ ≡ placed line₁ 16 (take nf ring) →
    take (16 + nf) line₂ ≡ drop (history - 16) (straight ring history 0 ++ take nf ring)
recently line line₁ line₂ ring history nf n r f h e₁ e₂ =
    let block = take 16 (drop (history - 16) ring) in
    let frame = take nf ring in
    let long : length block ≡ 16 = length-take-le 16 (drop (history - 16) ring) (simp length-drop (omega arith)) in
    let whole : length frame ≡ nf = length-take-le nf ring f in
    let long₁ : length line₁ ≡ length line = ap length e₁ ∙ length_placed line block 0 in
    rw (
      e₂,
      placed_stored line₁ frame 16 (omega arith),
      take_stored line₁ frame 16 (16 + nf) (omega arith) (omega arith),
      e₁,
      placed_stored line block 0 (omega arith),
      take_stored line block 0 16 (omega arith) (omega arith),
      newest_at_end ring frame history n r,
    )

-- elsewhere the newest past stands before the frame
pub line_in_ring : (ring : List Float) (history nf start : ℕ) → 16 ≤ start → start + nf ≤ history → history ≤ length ring →
    take (start + nf - (start - 16)) (drop (start - 16) ring) ≡ drop (history - 16) (straight ring history start ++ take nf (drop start ring))
unfolding straight
line_in_ring ring history nf start n s h =
    let older = take (history - start) (drop start ring) in
    let newer = take start ring in
    let frame = take nf (drop start ring) in
    let long : length older ≡ history - start = length-take-le (history - start) (drop start ring) (simp length-drop (omega arith)) in
    let few : length newer ≡ start = length-take-le start ring (omega arith) in
    let all : start + nf - (start - 16) ≡ 16 + nf = omega arith in
    let back : start - 16 + 16 ≡ start = omega arith in
    let e : history - 16 ≡ length older + (start - 16) = omega arith in
    rw (
      all,
      take-add 16 nf (drop (start - 16) ring),
      drop-drop 16 (start - 16) ring,
      back,
      append_assoc older newer frame,
      e,
      drop-append-add older (newer ++ frame) (start - 16),
      drop-append-le (start - 16) newer frame (omega arith),
      last_16 ring start (start - 16) back (omega arith),
    )

-- a block start that is not 0 has 16 samples before it
pub before_start : (history start : ℕ) → 16 ≤ newest_end history start → (start ≡ 0 → ⊥) → 16 ≤ start
before_start history start n h = rw (ne_eqb start 0 h) at n

-- what is left of the past after its oldest block: the newer blocks, in two parts of the ring
left_over : (ring frame : List Float) (history nf start : ℕ) → start + nf ≤ history → history ≤ length ring →
    drop nf (straight ring history start ++ frame) ≡ take (history - (start + nf)) (drop (start + nf) ring) ++ (take start ring ++ frame)
unfolding straight
left_over ring frame history nf start s h =
    rw (
      append_assoc (take (history - start) (drop start ring)) (take start ring) frame,
      drop-append-le nf (take (history - start) (drop start ring)) (take start ring ++ frame)
          (simp (length-take, length-drop) (omega arith)),
      part,
    )
  where
    part : drop nf (take (history - start) (drop start ring)) ≡ take (history - (start + nf)) (drop (start + nf) ring)
    part =
        let k : history - start ≡ nf + (history - (start + nf)) = omega arith in
        rw (k, ← drop-drop nf start ring) (drop_take nf (history - (start + nf)) (drop start ring) (simp length-drop (omega arith)))

module _ (ring frame : List Float) (history nf start : ℕ) (e : length frame ≡ nf) (s : start + nf ≤ history) (h : history ≤ length ring) where
  end : start + length frame ≡ start + nf
  end = omega arith

  -- storing gives the past moved along by a frame
  pub past_moves_along : straight (stored ring start frame) history (next_block history nf start) ≡ drop nf (straight ring history start ++ frame)
  unfolding straight
  past_moves_along = go (eqb (start + nf) history) refl
    where
      go : (b : Bool) → eqb (start + nf) history ≡ b →
          straight (stored ring start frame) history (cond b 0 (start + nf)) ≡ drop nf (straight ring history start ++ frame)
      go true p =
          let all : start + nf ≡ history = eqb-true (start + nf) history p in
          let none : history - (start + nf) ≡ 0 = omega arith in
          rw (left_over ring frame history nf start s h, none, append-nil, sub-zero) (take_stored ring frame start history (omega arith) h)
      go false p =
          rw (left_over ring frame history nf start s h, take_stored ring frame start (start + nf) end (omega arith), drop_stored ring frame start (start + nf) end (omega arith))

  -- and takes the place of the oldest block alone
  pub newer_stays : drop nf (straight (stored ring start frame) history start ++ frame) ≡ drop nf (straight ring history start ++ frame)
  newer_stays =
      rw (
        left_over (stored ring start frame) frame history nf start s (omega (arith, length_stored ring frame start (start + nf) end (omega arith))),
        left_over ring frame history nf start s h,
        drop_stored ring frame start (start + nf) end (omega arith),
        before_stored ring frame start (omega arith),
      )
