-- `filter_frame` goes by the transition.
use Rattle.filter.specs.Transition.{outputs}
use Rattle.filter.proofs.Cases.{inactive_line}
use Rattle.filter.proofs.transition.filter_frame.Goals as goal

pub returns-in-Inactive : goal.returns-in-Inactive
unfolding outputs
returns-in-Inactive c =
    let a = c.args in
    rw c.in-Inactive.is (inactive_line a.spans.fade a.spans.history a.x.now a.y.now c.requires.0)
