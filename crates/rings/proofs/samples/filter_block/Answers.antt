-- `filter_block`: the line of inputs, from the ring or put together, and what is filtered on it.
use mathlib.Core.Path.{◌∙◌}
use native.Mathlib.Omega.{arith}
use Rattle.rings.proofs.MovingPast.{line_in_ring, before_start}
use Rattle.rings.proofs.StraightLines.{on_line}
use Rattle.rings.proofs.samples.filter_block.Goals as goal

pub returns-then-start-eq0 : goal.returns-then-start-eq0
returns-then-start-eq0 c =
    c.filter_lines.ensures ∙ on_line c.requires _ (rw c.if-start-eq0.true c.recent.ensures)

pub returns : goal.returns
returns c =
    let a = c.args in
    let far = before_start a.config.history a.start c.requires.newest c.if-start-eq0.false in
    c.filter_lines-2.ensures
    ∙ on_line c.requires _ (line_in_ring a.x_hat_mem.now a.config.history a.config.nf a.start far (omega (arith, c.requires)) (omega (arith, c.requires)))
