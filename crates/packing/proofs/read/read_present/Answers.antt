-- `read_present`: a remainder is the lower bits, and a shift leaves the upper ones.
use mathlib.Core.Path.{sym, ◌∙◌}
use borrow.Author.Rules.{rules}
use Rattle.packing.proofs.ByBytes.{present_clear, present_set}
use Rattle.packing.proofs.read.read_present.Goals as goal

pub returns-then-second-ne0 : goal.returns-then-second-ne0
returns-then-second-ne0 c rest =
    c.refused.ensures
    ∙ sym (present_set c.args.first c.args.second rest c.requires (search rules) (search rules) c.if-second-ne0.true)

pub returns : goal.returns
returns c rest =
    sym (present_clear c.args.first c.args.second rest c.requires (search rules) (search rules) c.if-second-ne0.false)
