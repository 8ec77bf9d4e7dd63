-- `recent`: the past at the history's end, and the frame put after it.
use Prim.Native.Nat.{◌-◌}
use mathlib.Core.Path.{◌≡◌}
use native.Mathlib.Omega.{arith}
use Rattle.rings.proofs.MovingPast.{recently}
use Rattle.rings.proofs.ring.recent.Goals as goal

pub returns : goal.returns
returns c =
    let all : c.args.history - (c.args.history - 16) ≡ 16 = omega arith in
    recently c.args.line.now _ _ c.args.ring.now c.args.history c.args.nf
    (omega arith) (omega arith) (omega arith) (omega arith)
    (rw all at c.put.ensures) c.put-2.ensures
