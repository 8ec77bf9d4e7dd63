-- `put_one` keeps the other ear's samples aside, and puts them back.
use mathlib.Core.Path.{◌∙◌, ap}
use lib.ListN.{take, drop}
use Rattle.interleave.specs.Turns.{in_turn}
use Rattle.interleave.proofs.Buffers.{halves}
use Rattle.ears.proofs.Aside.{aside}
use Rattle.ears.proofs.carry.put_one.Goals as goal

pub returns-in-Left : goal.returns-in-Left
returns-in-Left c =
    rw c.in-Left.is
    (c.interleave.ensures
    ∙ ap (in_turn _) (aside _ _ _ c.args.nf c.deinterleave.ensures.1 (halves c.args.samples.now c.args.nf c.requires.0).1 c.requires.1))

pub returns-in-Right : goal.returns-in-Right
returns-in-Right c =
    rw c.in-Right.is
    (c.interleave-in-Right.ensures
    ∙ ap (λ l. in_turn l (take c.args.nf (drop c.args.start c.args.outputs.now)))
    (aside _ _ _ c.args.nf c.deinterleave.ensures.0 (halves c.args.samples.now c.args.nf c.requires.0).0 c.requires.1))
