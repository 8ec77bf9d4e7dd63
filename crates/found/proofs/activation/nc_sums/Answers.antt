-- `nc_sums` adds one product to each sum a turn.
use mathlib.Core.Path.{◌≡◌, refl}
use native.Mathlib.Numerals.{add-one}
use native.Mathlib.Omega.{arith}
use lib.Ieee.{of_bits}
use Rattle.lanes.specs.Sums.{product_sum}
use Rattle.found.specs.Activation.{shifted}
use Rattle.found.proofs.Signs.{read_whole}
use borrow.Author.Rules.{rules}
use Rattle.found.proofs.activation.nc_sums.Goals as goal

pub loop-n-init : goal.loop-n-init
unfolding product_sum of_bits
loop-n-init c = (search rules, refl, refl, refl)

pub loop-n-preserved : goal.loop-n-preserved
unfolding product_sum
loop-n-preserved c =
    let late : let a = c.args in
    c.dot_product-shifted.result ≡ shifted a.frame.x.now a.frame.start a.pitch_int a.pitch_fr a.signal.now c.loop-n.n =
    rw (read_whole c.args.pitch_fr (omega arith)) at c.dot_product-shifted.ensures in
    let was = c.loop-n.invariant in
    (search rules, rw (add-one, ← was.1, ← c.dot_product-no_delay.ensures, ← late), rw (add-one, ← was.2, ← c.dot_product-no_delay.ensures), rw (add-one, ← was.3, ← late))
