-- `tell` goes by the verdict, whose plan has a lag and a row that C's numbers hold.
use borrow.Author.Rules.{rules}
use Rattle.c_telling.proofs.Narrow.{plan_small}
use Rattle.c_telling.proofs.told.tell.Goals as goal

pub told_done-requires : goal.told_done-requires
told_done-requires c = rw c.told_of.ensures (plan_small c.args.registers c.args.side c.in-Ok.plan (search rules))
