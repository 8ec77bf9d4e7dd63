-- `at_6p4` puts the past in and writes the frame after it.
use borrow.Author.Rules.{rules}
use Rattle.signals.proofs.Fronts.{fronted}
use Rattle.signals.proofs.at_6p4.Goals as goal

pub returns : goal.returns
returns c =
    rw (c.halve.ensures, c.lengths_of-l.ensures, fronted c.args.y.now c.args.past.now _ 114 (search rules) (search rules) c.put.ensures)
