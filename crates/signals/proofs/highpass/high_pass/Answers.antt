-- `high_pass` filters one sample a turn: the samples ahead are still those that came in.
use Prim.Native.Nat.{◌+◌}
use mathlib.Core.Path.{◌≡◌, refl}
use native.Mathlib.Numerals.{add-one}
use native.Mathlib.Omega.{arith}
use lib.Ieee.{round, of_bits}
use Rattle.floats.specs.Single.{at}
use Rattle.lanes.specs.Sums.{window}
use Rattle.slices.specs.Written.{written}
use Rattle.signals.specs.HighPass.{memories, passed, high_passed}
use Rattle.slices.proofs.Written.{at_written}
use Rattle.signals.proofs.highpass.high_pass.Invariants.{both}
use Rattle.signals.proofs.highpass.high_pass.Goals as goal

pub loop-n-init : goal.loop-n-init
unfolding written memories
loop-n-init c = (refl, refl)

pub loop-n-preserved : goal.loop-n-preserved
unfolding memories written round of_bits
loop-n-preserved c =
    let seen : at c.loop-n.x (276 + c.loop-n.n) ≡ at c.args.x.now (276 + c.loop-n.n) =
    rw c.loop-n.invariant.1 (at_written c.args.x.now 276 (passed (both c.args.h.h50_minus1 c.args.h.h50_minus2) (window c.args.x.now 276)) c.loop-n.n (276 + c.loop-n.n) (omega arith)) in (
      rw (add-one, memories, ← c.loop-n.invariant.0, ← seen),
      rw (add-one, written, ← c.loop-n.invariant.1, ← c.loop-n.invariant.0, ← seen),
    )

pub returns-clause-signal : goal.returns-clause-signal
unfolding high_passed
returns-clause-signal c = let e : c.loop-n.n ≡ c.args.len12p8 = omega arith in cc
