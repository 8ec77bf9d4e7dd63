-- `straighten`: three blocks, put one after the other.
use native.Mathlib.Omega.{arith}
use Rattle.rings.proofs.MovingPast.{straightened}
use Rattle.rings.proofs.ring.straighten.Goals as goal

pub returns : goal.returns
returns c =
    straightened _ _ _ _ c.args.ring.now c.args.frame.now c.args.history c.args.block_start_index
    (omega arith) (omega arith) (omega arith)
    c.put.ensures c.put-2.ensures c.put-3.ensures
