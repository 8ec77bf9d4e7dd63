-- `pitch_kept`: unfaded outputs.
use Rattle.filter.specs.Kept.{kept_as}
use Rattle.filter.proofs.Cases.{kept_line}
use Rattle.filter.proofs.transition.pitch_kept.Goals as goal

pub returns : goal.returns
returns c =
    let a = c.args in
    rw c.filter_run.ensures (kept_line a.spans.fade a.spans.history a.x.now a.y.now c.requires.0 (kept_as a.new))
