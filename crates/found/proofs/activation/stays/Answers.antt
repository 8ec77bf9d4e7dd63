-- `stays` makes the definition's tests in its order.
use lib.Ieee.{of_bits, round, neg}
use borrow.Author.Rules.{rules}
use Rattle.found.specs.Activation.{stays}
use Rattle.found.proofs.activation.stays.Goals as goal

pub returns-then-nc : goal.returns-then-nc
unfolding stays of_bits round neg
returns-then-nc c = search rules

pub returns-then-nc-memory : goal.returns-then-nc-memory
unfolding stays of_bits round neg
returns-then-nc-memory c = search rules

pub returns-else-nc-memory : goal.returns-else-nc-memory
unfolding stays of_bits round neg
returns-else-nc-memory c = search rules
