-- A loop that feeds a listing line by line: where it stands between two lines, and that this is what the definition says; and its end.
use Prim.Native.Nat.{ℕ, suc, ◌+◌, ◌-◌, ◌≤◌, ◌<◌}
use mathlib.Core.Path.{◌≡◌, refl, sym, ap, ◌∙◌}
use mathlib.Core.Bool.{Bool, true, false, cond}
use mathlib.Core.List.{List, [], ◌∷◌, ◌++◌, append-nil}
use native.Mathlib.Nat.{zero-add, add-zero, sub-zero}
use native.Mathlib.Numerals.{add-one}
use native.Mathlib.Omega.{arith}
use borrow.Author.Tests.{eqb-true}
use lib.Dec.{eqb}
use lib.ListN.{length, take, drop, get_or, length-drop, drop_of_length-le}
use lib.Seq.{take-add, take-suc, drop-cons, drop-drop, get_or-drop}
use Rattle.lines.specs.Fields.{byte_at}
use Rattle.cells.specs.Texts.{Written}
use Rattle.lines.specs.Listings.{Rules, row_at, state_at}
use Rattle.lines.specs.Machine.{emptied, held_line, held_step, held_after, line_taken, state_step, emitted, state_after, text, full, taken, last_text}
use Rattle.lines.specs.declared.held.Held.{Held}
use Rattle.lines.specs.declared.held.Taken.{Taken}
use Rattle.cells.proofs.Stores.{written_then, written_length}
use Rattle.lines.proofs.Cuts.{held_append, state_append, text_append, taken_none, line}

-- before its end, a line stops at a newline
at_newline : (bs : List ℕ) → byte_at 10 bs < length bs → get_or bs (byte_at 10 bs) 0 ≡ 10
unfolding byte_at
at_newline [] l = absurd (omega arith)
at_newline (b ∷ bs) l = go (eqb b 10) refl l (λ k. at_newline bs k)
  where
    go : (t : Bool) → eqb b 10 ≡ t → cond t 0 (suc (byte_at 10 bs)) < suc (length bs) → (byte_at 10 bs < length bs → get_or bs (byte_at 10 bs) 0 ≡ 10) →
        get_or (b ∷ bs) (cond t 0 (suc (byte_at 10 bs))) 0 ≡ 10
    go true e k rest = eqb-true b 10 e
    go false e k rest = rest (omega arith)

module _ (L : Rules) (input out₀ : List ℕ) (s₀ : L.State) (h₀ : Held) where
  -- the bytes used have made the state, what is held and the text, and what is left is what the definition still takes
  pub record Going (out : List ℕ) (s : L.State) (h : Held) (at used : ℕ) : Type 0 where
    pub within : used ≤ length input
    pub fits : at ≤ length out
    pub size : length out ≡ length out₀
    pub left : taken L s₀ h₀ input (length out₀) ≡ used + taken L s h (drop used input) (length out - at)
    pub state : s ≡ state_after L s₀ h₀ (take used input)
    pub held : h ≡ held_after h₀ (take used input)
    pub wrote : Written out₀ 0 (text L s₀ h₀ (take used input)) out at

  pub going_first : Going out₀ s₀ h₀ 0 0
  unfolding state_after held_after text
  going_first =
      record {
        within = omega arith;
        fits = omega arith;
        size = refl;
        left = rw (sub-zero, zero-add);
        state = refl;
        held = refl;
        wrote = record { stored = refl; ends = refl };
      }

  module _ (out : List ℕ) (s : L.State) (h : Held) (at used : ℕ) (g : Going out s h at used) where
    -- a loop ends where it can go no further, or has no input
    pub going_full : full L s (length out - at) ≡ true → used ≡ taken L s₀ h₀ input (length out₀)
    going_full r = sym (g.left ∙ rw (taken_none L s h (drop used input) (length out - at) r, add-zero))

    pub going_done : length input ≤ used → used ≡ taken L s₀ h₀ input (length out₀)
    unfolding taken
    going_done l = sym (g.left ∙ rw (drop_of_length-le input l, add-zero))

    -- the bytes up to a newline or the end are held
    pub going_held : (t : Taken) → full L s (length out - at) ≡ false → t ≡ line_taken h (drop used input) used → Going out s t.held at t.at
    going_held t r e =
        let bs = drop used input in
        let l = line L s h bs (length out - at) r in
        let k = byte_at 10 bs in
        let parts : take (used + k) input ≡ take used input ++ take k bs = take-add used k input in
        rw e
        (record {
          within = omega (arith, l.within, length-drop used input, g.within);
          fits = g.fits;
          size = g.size;
          left = g.left ∙ rw (l.counted, drop-drop k used input) (omega arith);
          state = rw (parts, state_append L s₀ h₀ (take used input) (take k bs), ← g.state, ← g.held) (sym l.state);
          held = rw (parts, held_append h₀ (take used input) (take k bs), ← g.held);
          wrote = rw (parts, text_append L s₀ h₀ (take used input) (take k bs), ← g.state, ← g.held, l.silent, append-nil) g.wrote;
        })

    -- a newline moves the state on, and its row is written
    going_newline : (out' : List ℕ) (at' : ℕ) → full L s (length out - at) ≡ false → used < length input → get_or input used 0 ≡ 10 →
        Written out at (row_at L s (held_line h)) out' at' → at' ≤ length out → Going out' (state_at L s (held_line h)) (emptied h) at' (used + 1)
    unfolding state_after held_after text taken state_step held_step emitted
    going_newline out' at' r u b w f =
        let bs = drop (used + 1) input in
        let parts : take (used + 1) input ≡ take used input ++ (10 ∷ []) = rw (add-one, take-suc input used 0, b) in
        let rest : drop used input ≡ 10 ∷ bs = rw (add-one, drop-cons input used 0, b) in
        let same = written_length w in
        let space : length out - at - length (row_at L s (held_line h)) ≡ length out' - at' = omega (arith, w.ends) in
        record {
          within = omega arith;
          fits = omega (arith, g.fits);
          size = same ∙ g.size;
          left = g.left ∙ rw (rest, r, space) (omega arith);
          state = rw (parts, state_append L s₀ h₀ (take used input) (10 ∷ []), ← g.state, ← g.held);
          held = rw (parts, held_append h₀ (take used input) (10 ∷ []), ← g.held);
          wrote =
              rw (parts, text_append L s₀ h₀ (take used input) (10 ∷ []), ← g.state, ← g.held, append-nil (row_at L s (held_line h)))
              (written_then g.wrote w);
        }

  -- a line that a newline ends
  pub going_row : (out : List ℕ) (s : L.State) (h : Held) (at used : ℕ) → Going out s h at used → (t : Taken) (out' : List ℕ) (at' : ℕ) →
      full L s (length out - at) ≡ false → t ≡ line_taken h (drop used input) used → t.at < length input →
      Written out at (row_at L s (held_line t.held)) out' at' → at' ≤ length out →
      Going out' (state_at L s (held_line t.held)) (emptied t.held) at' (t.at + 1)
  going_row out s h at used g t out' at' r e u w f =
      let k = byte_at 10 (drop used input) in
      let where_it_ends : t.at ≡ used + k = ap (λ (x : Taken). x.at) e in
      let inside : k < length (drop used input) = rw length-drop (omega arith) in
      let newline : get_or input t.at 0 ≡ 10 = rw (where_it_ends, ← get_or-drop used input k 0) (at_newline (drop used input) inside) in
      going_newline out s t.held at t.at (going_held out s h at used g t r e) out' at' r u newline w f

-- at the end: nothing is held, or a last line
module _ (L : Rules) (s : L.State) (h : Held) where
  pub last_none : eqb h.len 0 ≡ true → last_text L s h ≡ L.closing s
  unfolding last_text
  last_none e = rw e

  pub last_some : eqb h.len 0 ≡ false → last_text L s h ≡ row_at L s (held_line h) ++ L.closing (state_at L s (held_line h))
  unfolding last_text
  last_some e = rw e
