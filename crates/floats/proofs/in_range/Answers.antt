-- `in_range` makes the definition's two tests.
use mathlib.Core.Path.{◌≡◌}
use mathlib.Core.Bool.{true, false}
use lib.Ieee.{of_bits, of_int, neg, le}
use Rattle.floats.specs.Single.{float, in_range}
use Rattle.floats.proofs.in_range.Goals as goal

pub returns-then-x : goal.returns-then-x
unfolding in_range of_bits of_int neg
returns-then-x c = let above : le (neg (float 1048576)) c.args.x ≡ true = c.if-x.true in rw above

pub returns : goal.returns
unfolding in_range of_bits of_int neg
returns c = let above : le (neg (float 1048576)) c.args.x ≡ false = c.if-x.false in rw above
