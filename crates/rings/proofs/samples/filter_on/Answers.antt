-- `filter_on`: the line of outputs, the case's filter on both lines, and the outputs stored.
use mathlib.Core.Path.{◌∙◌}
use native.Mathlib.Omega.{arith}
use Rattle.rings.proofs.StraightLines.{put_back}
use Rattle.rings.proofs.samples.filter_on.Goals as goal

pub returns : goal.returns
returns c =
    c.put.ensures
    ∙ put_back c.requires.0 _ (rw c.straighten.ensures at c.filter_frame.ensures)
    (omega (arith, c.filter_frame.auto.y, c.straighten.auto.line, c.requires.1))
