-- `starts` makes the definition's tests in its order.
use lib.Ieee.{of_bits, round}
use borrow.Author.Rules.{rules}
use Rattle.found.specs.Activation.{starts}
use Rattle.found.proofs.activation.starts.Goals as goal

pub returns-then-memory-2 : goal.returns-then-memory-2
unfolding starts of_bits round
returns-then-memory-2 c = search rules

pub returns-else-memory-2 : goal.returns-else-memory-2
unfolding starts of_bits round
returns-else-memory-2 c = search rules
