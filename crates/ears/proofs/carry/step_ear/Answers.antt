-- `step_ear` filters an accepted ear's frame.
use borrow.Author.Rules.{rules}
use Rattle.ears.proofs.carry.step_ear.Goals as goal

pub filter_planned-requires : goal.filter_planned-requires
filter_planned-requires c = (c.requires _ c.in-Ok.is).filtering (search rules) (search rules)
