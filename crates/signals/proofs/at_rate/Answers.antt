-- `at_rate` puts the past in and writes the frame after it.
use borrow.Author.Rules.{rules}
use Rattle.signals.proofs.Fronts.{fronted}
use Rattle.signals.proofs.at_rate.Goals as goal

pub returns : goal.returns
returns c = rw (c.take_in.ensures, fronted c.args.x.now c.args.past.now _ 60 (search rules) (search rules) c.put.ensures)
