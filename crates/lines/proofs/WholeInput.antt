-- Any cuts give the whole input's text: what a listing's start, its calls and its end write, one after the other, is the listing of
-- the whole input, however it was cut and whatever buffers the calls had, if enough of them were offered a byte and had space for a row.
use Prim.Native.Nat.{ℕ, suc, ◌+◌, ◌-◌, ◌≤◌, ◌<◌, min}
use mathlib.Core.Path.{◌≡◌, refl, sym, ap, ◌∙◌}
use mathlib.Core.Bool.{Bool, true, false, cond, ◌&&◌}
use mathlib.Core.List.{List, [], ◌∷◌, ◌++◌, append_assoc, append-nil}
use native.Mathlib.Omega.{arith}
use native.Mathlib.Numerals.{add-one}
use borrow.Author.Tests.{ltb-true, ltb-false, leb-true, eq-eqb, ne_eqb}
use lib.Dec.{eqb, ltb, leb}
use lib.ListN.{length, take, drop, set, length-append, length-set, length-take, length-drop, take-append-drop}
use lib.Seq.{take-suc-set, take_all, take-append-le, take-take}
use Rattle.lines.specs.Listings.{Rules, Decided, last_line, row_at, state_at, lines_from, after_lines, rows_from, listed_from, listing_of}
use Rattle.lines.specs.Machine.{emptied, nothing_held, held_line, held_step, held_after, state_step, emitted, state_after, text, last_text}
use Rattle.lines.specs.Machine.{Call, Reading, begun, offered, taken_by, called, called_all, whole_text, serving}
use Rattle.lines.specs.declared.held.Held.{Held}
use Rattle.lines.proofs.Cuts.{held_append, state_append, text_append, progress, taken_fits}

-- the first 32 bytes of the line that is being read are held
record Holds (h : Held) (line : List ℕ) : Type 0 where
  bytes : held_line h ≡ take 32 line
  count : h.len ≡ min (length line) 32
  size : length h.bytes ≡ 32

-- what one byte more that is no newline makes of it
with_byte : Held → ℕ → Held
with_byte h b = cond (ltb h.len 32) (record { bytes = set h.bytes h.len b; len = h.len + 1 }) h

-- a byte that is no newline is held, or is one of those after the 32nd
byte_held : (h : Held) (line : List ℕ) (b : ℕ) → Holds h line → Holds (with_byte h b) (line ++ (b ∷ []))
unfolding with_byte
byte_held h line b held = go (ltb h.len 32) refl
  where
    grown : length (line ++ (b ∷ [])) ≡ length line + 1
    grown = length-append line (b ∷ [])

    go : (t : Bool) → ltb h.len 32 ≡ t → Holds (cond t (record { bytes = set h.bytes h.len b; len = h.len + 1 }) h) (line ++ (b ∷ []))
    go true p =
        let l : h.len < 32 = ltb-true h.len 32 p in
        record {
          bytes =
              rw (
                add-one,
                take-suc-set h.bytes h.len b (omega (arith, held.size)),
                held.bytes,
                take_all 32 line (omega (arith, held.count)),
                take_all 32 (line ++ (b ∷ [])) (omega (arith, held.count, grown)),
              );
          count = omega (arith, held.count, grown);
          size = length-set h.bytes h.len b ∙ held.size;
        }
    go false p =
        let l : 32 ≤ h.len = ltb-false h.len 32 p in
        record {
          bytes = rw (take-append-le 32 line (b ∷ []) (omega (arith, held.count))) held.bytes;
          count = omega (arith, held.count, grown);
          size = held.size;
        }

module _ (L : Rules) where
  -- the text that a machine still writes over some bytes and at the end
  rest : L.State → Held → List ℕ → List ℕ
  rest s h bs = text L s h bs ++ last_text L (state_after L s h bs) (held_after h bs)

module _ (L : Rules) (decided : Decided L) where
  held_row : (s : L.State) (h : Held) (line : List ℕ) → Holds h line → row_at L s (held_line h) ≡ row_at L s line
  held_row s h line held = rw (held.bytes, decided.answers s line)

  held_moves : (s : L.State) (h : Held) (line : List ℕ) → Holds h line → state_at L s (held_line h) ≡ state_at L s line
  held_moves s h line held = rw (held.bytes, decided.moves s line)

  -- at the end of the input
  last_row : (s : L.State) (h : Held) (line : List ℕ) → Holds h line → last_text L s h ≡ listed_from L s (last_line line)
  unfolding last_text rows_from after_lines
  last_row s h [] held = rw (eq-eqb h.len 0 (omega (arith, held.count)))
  last_row s h (b ∷ bs) held = rw (ne_eqb h.len 0 (λ e. omega (arith, held.count)), held_row s h (b ∷ bs) held, held_moves s h (b ∷ bs) held, append-nil)

  -- what a machine still writes is what is listed of the lines that are left
  Left : List ℕ → L.State → Held → List ℕ → Type 0
  Left bs s h line = Holds h line → rest L s h bs ≡ listed_from L s (lines_from line bs)

  turn : (s : L.State) (h : Held) (line bs : List ℕ) (b : ℕ) → ((s' : L.State) (h' : Held) (line' : List ℕ) → Left bs s' h' line') → Left (b ∷ bs) s h line
  unfolding Left rest text state_after held_after lines_from rows_from after_lines state_step held_step emitted with_byte
  turn s h line bs b left held = go (eqb b 10)
    where
      go : (t : Bool) →
          (cond t (row_at L s (held_line h)) [] ++ text L (cond t (state_at L s (held_line h)) s) (cond t (emptied h) (with_byte h b)) bs) ++
          last_text L (state_after L (cond t (state_at L s (held_line h)) s) (cond t (emptied h) (with_byte h b)) bs) (held_after (cond t (emptied h) (with_byte h b)) bs) ≡
          listed_from L s (cond t (line ∷ lines_from [] bs) (lines_from (line ++ (b ∷ [])) bs))
      go true =
          rw (
            append_assoc (row_at L s (held_line h)),
            left (state_at L s (held_line h)) (emptied h) [] (record { bytes = refl; count = refl; size = held.size }),
            held_row s h line held,
            held_moves s h line held,
            append_assoc,
          )
      go false = left s (with_byte h b) (line ++ (b ∷ [])) (byte_held h line b held)

  rows_left : (bs : List ℕ) (s : L.State) (h : Held) (line : List ℕ) → Left bs s h line
  unfolding Left rest text state_after held_after lines_from
  rows_left [] s h line held = last_row s h line held
  rows_left (b ∷ bs) s h line held = turn s h line bs b (λ s' h' line'. rows_left bs s' h' line') held

  -- in one piece
  pub one_piece : (input : List ℕ) →
      (L.header ++ text L L.first nothing_held input) ++ last_text L (state_after L L.first nothing_held input) (held_after nothing_held input) ≡
      listing_of L input
  unfolding Left rest
  one_piece input =
      rw (append_assoc, rows_left input L.first nothing_held [] (record { bytes = refl; count = refl; size = refl }))

module _ (L : Rules) where
  -- from a state that stops on, lines are not listed
  pub none_after_a_stop : (s : L.State) → L.stops s ≡ true → (lines : List (List ℕ)) → listed_from L s lines ≡ L.closing s
  unfolding rows_from after_lines
  none_after_a_stop s e [] = refl
  none_after_a_stop s e (line ∷ rest) = rw e (none_after_a_stop s e rest)

  -- all text once the input that is left is fed in one piece
  ending : Reading L → List ℕ
  ending f = f.texts ++ rest L f.state f.held f.left

  -- a call that takes a part of what is left leaves the whole text as it is
  in_two : (s : L.State) (h : Held) (t a b : List ℕ) →
      t ++ rest L s h (a ++ b) ≡ (t ++ text L s h a) ++ rest L (state_after L s h a) (held_after h a) b
  unfolding rest
  in_two s h t a b = rw (text_append L s h a b, state_append L s h a b, held_append h a b) (simp append_assoc)

  -- what it takes of the bytes that it is offered are the first of what is left
  of_all : (f : Reading L) (c : Call) → take (taken_by L f c) (offered L f c) ≡ take (taken_by L f c) f.left
  unfolding taken_by
  of_all f c =
      take-take (taken_by L f c) c.cut f.left
      (omega (arith, taken_fits L f.state f.held (offered L f c) c.buffer, length-take c.cut f.left))

  call_keeps : (f : Reading L) (c : Call) → ending f ≡ ending (called L f c)
  unfolding ending called
  call_keeps f c =
      ap (λ (l : List ℕ). f.texts ++ rest L f.state f.held l) (sym (take-append-drop (taken_by L f c) f.left)) ∙
      rw (of_all f c) (in_two f.state f.held f.texts (take (taken_by L f c) f.left) (drop (taken_by L f c) f.left))

  calls_keep : (f : Reading L) (cs : List Call) → ending f ≡ ending (called_all L f cs)
  unfolding called_all
  calls_keep f [] = refl
  calls_keep f (c ∷ cs) = call_keeps f c ∙ calls_keep (called L f c) cs

  -- a call that is offered a byte and has space for a row takes at least one
  pub takes_one : (f : Reading L) (c : Call) → 0 < length f.left → 1 ≤ c.cut → L.space ≤ c.buffer → 0 < taken_by L f c
  unfolding taken_by
  takes_one f c l o r = progress L f.state f.held (take c.cut f.left) c.buffer (rw length-take (omega arith)) r

  -- enough such calls take every byte
  pub all_taken : (cs : List Call) (f : Reading L) → length f.left ≤ serving L cs → (called_all L f cs).left ≡ []
  unfolding called_all serving called
  all_taken [] f l = empty f.left l
    where
      empty : (bs : List ℕ) → length bs ≤ 0 → bs ≡ []
      empty [] k = refl
      empty (b ∷ bs) k = absurd (omega arith)
  all_taken (c ∷ cs) f l = all_taken cs (called L f c) (go (leb 1 c.cut) (leb L.space c.buffer) refl refl l)
    where
      shorter : length (called L f c).left ≡ length f.left - taken_by L f c
      shorter = length-drop (taken_by L f c) f.left

      go : (o r : Bool) → leb 1 c.cut ≡ o → leb L.space c.buffer ≡ r → length f.left ≤ cond (o && r) (suc (serving L cs)) (serving L cs) →
          length (called L f c).left ≤ serving L cs
      go false r p q k = omega (arith, shorter)
      go true false p q k = omega (arith, shorter)
      go true true p q k = some (ltb 0 (length f.left)) refl
        where
          some : (t : Bool) → ltb 0 (length f.left) ≡ t → length (called L f c).left ≤ serving L cs
          some false e = omega (arith, shorter, ltb-false 0 (length f.left) e)
          some true e = omega (arith, shorter, takes_one f c (ltb-true 0 (length f.left) e) (leb-true 1 c.cut p) (leb-true L.space c.buffer q))

module _ (L : Rules) (decided : Decided L) where
  -- once nothing is left, whatever the cuts and the buffers were
  pub once_taken : (input : List ℕ) (cs : List Call) → (called_all L (begun L input) cs).left ≡ [] → whole_text L (called_all L (begun L input) cs) ≡ listing_of L input
  unfolding ending rest text state_after held_after
  once_taken input cs none =
      let all : whole_text L (called_all L (begun L input) cs) ≡ ending L (called_all L (begun L input) cs) = rw none in
      all ∙ sym (calls_keep L (begun L input) cs) ∙ (rw append_assoc at (one_piece L decided input))

  -- and nothing is left once as many calls as the input has bytes were offered a byte and had space for a row
  pub any_cuts : (input : List ℕ) (cs : List Call) → length input ≤ serving L cs → whole_text L (called_all L (begun L input) cs) ≡ listing_of L input
  any_cuts input cs l = once_taken input cs (all_taken L cs (begun L input) l)
