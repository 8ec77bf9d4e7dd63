-- `is_near` tests both sides of the distance.
use mathlib.Core.Path.{◌≡◌}
use mathlib.Core.Bool.{true, false}
use lib.Ieee.{lt, of_bits, neg, of_int, round}
use Rattle.floats.specs.Single.{◌⊖◌, float}
use Rattle.found.proofs.Activations.{between}
use Rattle.found.proofs.activation.is_near.Goals as goal

pub returns-then-change : goal.returns-then-change
unfolding of_bits neg of_int round
returns-then-change c =
    let change = c.args.pitch ⊖ c.args.mem_pitch in
    let above : lt (neg (float 2)) change ≡ true = c.if-change.true in
    rw (between change, above)

pub returns-else-change : goal.returns-else-change
unfolding of_bits neg of_int round
returns-else-change c =
    let change = c.args.pitch ⊖ c.args.mem_pitch in
    let above : lt (neg (float 2)) change ≡ false = c.if-change.false in
    rw (between change, above)
