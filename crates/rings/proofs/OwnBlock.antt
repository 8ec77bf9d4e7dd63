-- A frame that stands in the ring of inputs already: storing it again changes nothing, and its filter reads nothing that it took the place of.
use Prim.Native.Nat.{ℕ, ◌+◌, ◌≤◌}
use mathlib.Core.Path.{◌≡◌, sym, ◌∙◌, ap}
use mathlib.Core.List.{List, ◌++◌}
use native.Mathlib.Omega.{arith}
use lib.ListN.{length, take, drop, length-append, length-drop, take-append-drop}
use lib.Seq.{take-add, drop_at, length-take-le}
use lib.Ieee.{Float}
use Rattle.rates.specs.declared.config.Lc3Config.{Lc3Config}
use Rattle.coefficients.specs.Coefficients.{Filter}
use Rattle.slices.specs.Slices.{stored}
use Rattle.slices.proofs.Stored.{take_stored, length_stored, drop_take}
use Rattle.filter.specs.declared.transition.Transition.{Transition}
use Rattle.filter.proofs.Padded.{outputs_inputs}
use Rattle.rings.specs.Ring.{straight}
use Rattle.rings.specs.Samples.{filtered, block_at}
use Rattle.rings.specs.Required.{Filterable}
use Rattle.rings.proofs.StraightLines.{length_straight}
use Rattle.rings.proofs.MovingPast.{newer_stays}

-- a stored frame stands at its block start
pub stands : (c : Lc3Config) (start : ℕ) (ring frame : List Float) → length frame ≡ c.nf → start + c.nf ≤ length ring →
    block_at c start (stored ring start frame) ≡ frame
stands c start ring frame e h =
    let long = length_stored ring frame start (start + c.nf) (omega arith) h in
    sym (drop_take start c.nf (stored ring start frame) (omega arith))
    ∙ rw (take_stored ring frame start (start + c.nf) (omega arith) h) (drop_at (take start ring) frame start (length-take-le start ring (omega arith)))

-- what stands there is stored already
pub own_place : (c : Lc3Config) (start : ℕ) (ring : List Float) → start + c.nf ≤ length ring → stored ring start (block_at c start ring) ≡ ring
unfolding stored
own_place c start ring h =
    let long : length (block_at c start ring) ≡ c.nf = length-take-le c.nf (drop start ring) (simp length-drop (omega arith)) in
    rw (long, ← take-add start c.nf ring) (take-append-drop (start + c.nf) ring)

-- the outputs of a frame are the same, whether it is stored among the inputs before or after
pub stored_before : {t : Transition} {old new : Filter} {c : Lc3Config} {start : ℕ} {xs ys : List Float} → Filterable t old new c start xs ys →
    (frame : List Float) → length frame ≡ c.nf →
    filtered t old new c start (stored xs start frame) ys frame ≡ filtered t old new c start xs ys frame
unfolding filtered
stored_before {t = t} {old = old} {new = new} {c = c} {start = start} {xs = xs} {ys = ys} f frame e =
    let line = straight (stored xs start frame) c.history start ++ frame in
    let line' = straight xs c.history start ++ frame in
    let long = length_stored xs frame start (start + c.nf) (omega arith) (omega (arith, f.inputs)) in
    ap (drop c.history)
    (outputs_inputs c.nf c.fs.fade c.history line line' (straight ys c.history start)
    (omega (arith, length_straight ys c.history start (omega arith) (omega arith)))
    (record {
      long = simp length-append (rw (
        length_straight (stored xs start frame) c.history start (omega arith) (omega arith),
        length_straight xs c.history start (omega arith) (omega arith),
      ));
      rest = newer_stays xs frame c.history c.nf start e f.block (omega arith);
    })
    t old new f.readable)
