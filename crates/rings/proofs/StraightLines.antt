-- The lines that a frame is filtered on: a straight past with the frame after it, of the inputs only the newest part.
use Prim.Native.Nat.{ℕ, ◌+◌, ◌-◌, ◌≤◌}
use mathlib.Core.Path.{◌≡◌, ◌∙◌}
use mathlib.Core.List.{List, ◌++◌}
use native.Mathlib.Omega.{arith}
use lib.ListN.{length, take, drop, length-append, length-take, length-drop}
use lib.Seq.{take_at, drop_at, take_all, length-take-le}
use lib.Ieee.{Float}
use Rattle.rates.specs.declared.config.Lc3Config.{Lc3Config}
use Rattle.slices.specs.Slices.{stored, placed}
use Rattle.slices.proofs.Stored.{placed_stored}
use Rattle.rings.specs.Ring.{straight}
use Rattle.filter.specs.Transition.{outputs}
use Rattle.filter.specs.Blocks.{padded}
use Rattle.rings.specs.Required.{Filterable}
use Rattle.rings.specs.Samples.{filtered, block_at, filtered_block}
use Rattle.rings.specs.OnLines.{input_line, filtered_on, FilterableOn}
use Rattle.coefficients.specs.Coefficients.{Filter}
use Rattle.filter.specs.declared.transition.Transition.{Transition}
use Rattle.filter.specs.declared.transition.Transition.TheVariants.{Inactive}
use Rattle.filter.proofs.OutputsLong.{outputs_long}
use Rattle.filter.proofs.Padded.{padded_alike, outputs_inputs}

pub length_straight : (ring : List Float) (history start : ℕ) → start ≤ history → history ≤ length ring → length (straight ring history start) ≡ history
unfolding straight
length_straight ring history start s h = simp (length-append, length-take, length-drop) (omega arith)

module _ {t : Transition} {old new : Filter} {c : Lc3Config} {start : ℕ} {xs ys : List Float} (f : Filterable t old new c start xs ys) where
  pub frame_long : length (block_at c start xs) ≡ c.nf
  frame_long = length-take-le c.nf (drop start xs) (simp length-drop (omega arith))

  past_x : length (straight xs c.history start) ≡ c.history
  past_x = length_straight xs c.history start (omega arith) (omega arith)

  past_y : length (straight ys c.history start) ≡ c.history
  past_y = length_straight ys c.history start (omega arith) (omega arith)

  -- the line of all inputs reaches to the end of the frame
  line_x : length (straight xs c.history start ++ block_at c start xs) ≡ c.history + c.nf
  line_x = length-append (straight xs c.history start) (block_at c start xs) ∙ rw (past_x, frame_long)

  -- and gives what filtering between the rings does
  pub on_line : (x : List Float) → x ≡ input_line c start xs → filtered_on t old new c start x ys ≡ filtered_block t old new c start xs ys
  unfolding filtered
  on_line x e =
      let line = straight xs c.history start ++ block_at c start xs in
      rw (
        e,
        outputs_inputs (c.history - 16) c.fs.fade c.history (padded (c.history - 16) (drop (c.history - 16) line)) line (straight ys c.history start)
            (omega (arith, past_y)) (padded_alike (c.history - 16) line (omega (arith, line_x))) t old new f.readable,
      )

-- a frame has as many outputs as inputs
pub filtered_long : {t : Transition} {old new : Filter} {c : Lc3Config} {start : ℕ} {xs ys : List Float} → Filterable t old new c start xs ys →
    (frame : List Float) → length frame ≡ c.nf → length (filtered t old new c start xs ys frame) ≡ c.nf
unfolding filtered
filtered_long {t = t} {old = old} {new = new} {c = c} {start = start} {xs = xs} {ys = ys} f frame e =
    let all : length (straight xs c.history start ++ frame) ≡ c.history + c.nf = length-append (straight xs c.history start) frame ∙ rw (past_x f, e) in
    simp length-drop (rw (outputs_long t old new c.fs.fade (straight xs c.history start ++ frame) (straight ys c.history start) (omega (arith, past_y f, f.rest)), all) (omega arith))

module _ (old new : Filter) (c : Lc3Config) (start : ℕ) (xs ys : List Float) (s : start ≤ c.history) (hx : c.history ≤ length xs) (hy : c.history ≤ length ys) where
  copied : (frame : List Float) → frame ≡ filtered Inactive old new c start xs ys frame
  unfolding filtered outputs
  copied frame =
      let x = straight xs c.history start in
      let y = straight ys c.history start in
      let px : length x ≡ c.history = length_straight xs c.history start s hx in
      let py : length y ≡ c.history = length_straight ys c.history start s hy in
      rw (py, drop_at x frame c.history px, drop_at y frame c.history py)

  -- in the first case the block of outputs is the block of inputs
  pub inactive_block : filtered_block Inactive old new c start xs ys ≡ stored ys start (block_at c start xs)
  inactive_block = rw (← copied (block_at c start xs))

-- the first case leaves the frame as it is
pub untouched : {old new : Filter} {c : Lc3Config} {start : ℕ} {xs ys : List Float} → Filterable Inactive old new c start xs ys → (frame : List Float) →
    frame ≡ filtered Inactive old new c start xs ys frame
untouched {old = old} {new = new} {c = c} {start = start} {xs = xs} {ys = ys} f frame =
    copied old new c start xs ys (omega arith) (omega arith) (omega arith) frame

-- the part of a line after its past, stored as a frame
stored_back : (ring out : List Float) (history start nf : ℕ) → length out ≡ history + nf → start + nf ≤ length ring →
    placed ring start (take (length out - history) (drop history out)) ≡ stored ring start (drop history out)
stored_back ring out history start nf e h =
    let l : length (drop history out) ≡ nf = simp length-drop (omega arith) in
    rw (take_all (length out - history) (drop history out) (simp length-drop (omega arith))) (placed_stored ring (drop history out) start (omega arith))

module _ {t : Transition} {old new : Filter} {c : Lc3Config} {start : ℕ} {x ys : List Float} (f : FilterableOn t old new c start x ys) where
  -- the outputs of the frame are what lies after the past
  pub put_back : (out : List Float) →
      out ≡ outputs t old new c.fs.fade (padded (c.history - 16) x) (take c.history (straight ys c.history start ++ take (length x - 16) (drop 16 x))) →
      length out ≡ c.history + c.nf →
      placed ys start (take (length out - c.history) (drop c.history out)) ≡ filtered_on t old new c start x ys
  put_back out e long =
      stored_back ys out c.history start c.nf long (omega (arith, f.ring))
      ∙ rw (e, take_at (straight ys c.history start) (take (length x - 16) (drop 16 x)) c.history (past_y f.ring))
