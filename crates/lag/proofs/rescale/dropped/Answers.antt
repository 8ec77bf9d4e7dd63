-- `dropped`: the mask 7 leaves the remainder by 8.
use Prim.Native.Nat.{◌+◌, ◌*◌}
use lib.Bits.{and_mask}
use Rattle.lag.proofs.rescale.dropped.Goals as goal

pub returns : goal.returns
returns c = and_mask (5 * c.args.r * c.args.quarters + 4) 3
