-- `ears_in_range`: what holds of the whole buffer holds of each ear.
use mathlib.Core.Path.{sym, ◌∙◌}
use Rattle.interleave.proofs.Ranges.{all_of_both}
use Rattle.interleave.proofs.ears_in_range.Goals as goal

pub returns-then-all_in_range : goal.returns-then-all_in_range
returns-then-all_in_range c =
    let parts = all_of_both c.args.samples.now (sym c.all_in_range.ensures ∙ c.if-all_in_range.true) in
    (sym parts.0, sym parts.1)
