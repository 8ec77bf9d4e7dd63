-- `take_in` writes one sample a turn, as many as fit.
use Prim.Native.Nat.{min, ◌<◌}
use mathlib.Core.Path.{◌≡◌, refl, sym, ◌∙◌, ap}
use native.Mathlib.Numerals.{add-one}
use native.Mathlib.Omega.{arith}
use borrow.Author.Rules.{rules}
use lib.IntN.{pos}
use lib.ListN.{length, get_or, take, length-take}
use lib.Seq.{get_or-take}
use mir.Syntax.{w16}
use mir.Val.{SFits}
use mir.Facts.{to_z-of_z}
use Rattle.slices.specs.Written.{written}
use Rattle.slices.proofs.Written.{written_past}
use Rattle.signals.specs.Straight.{sampled}
use Rattle.signals.proofs.straight.take_in.Goals as goal

pub loop-i-init : goal.loop-i-init
unfolding written
loop-i-init c = refl

pub loop-i-preserved : goal.loop-i-preserved
unfolding written
loop-i-preserved c =
    let frame = c.args.frame.now in
    let i = c.loop-i.i in
    let inside : i < c.min.result = omega (arith, length-take c.min.result frame) in
    let fits : SFits w16 (get_or (take c.min.result frame) i (pos 0)) = search rules in
    rw (add-one, written, ← c.loop-i.invariant, to_z-of_z fits, get_or-take c.min.result frame i (pos 0) inside)

pub returns : goal.returns
returns c =
    let a = c.args in
    let e : c.loop-i.i ≡ min (length a.frame.now) 480 = omega (arith, c.min.ensures, length-take c.min.result a.frame.now) in
    c.loop-i.invariant ∙ ap (written a.out.now 60 (sampled a.frame.now)) e
    ∙ sym (written_past a.out.now 60 (sampled a.frame.now) 480 (length a.frame.now) (search rules))
