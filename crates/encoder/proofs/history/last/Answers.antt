-- `last` copies into an array of zeros.
use Prim.Native.Nat.{◌+◌, ◌-◌}
use mathlib.Core.Path.{◌∙◌}
use native.Mathlib.Omega.{arith}
use borrow.Author.Rules.{rules}
use lib.Ieee.{binary32, of_bits}
use lib.ListN.{replicate}
use Rattle.signals.specs.Straight.{laid}
use Rattle.signals.proofs.Fronts.{part}
use Rattle.encoder.proofs.history.last.Goals as goal

pub returns : goal.returns
unfolding laid of_bits
returns g c =
    c.put.ensures
    ∙ part (replicate g.row.N (of_bits binary32 0)) c.args.x.now c.args.start g.row.N (c.args.start + g.row.N - c.args.start) (omega arith) c.requires (search rules)
