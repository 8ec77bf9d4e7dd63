-- `pitch_changed`: the newest of z is set aside, and the new filter fades in over it.
use Prim.Native.Nat.{◌+◌, ◌-◌}
use native.Mathlib.Omega.{arith}
use Rattle.filter.specs.Kept.{kept_as}
use Rattle.filter.proofs.Cases.{part_aside, changed_line}
use Rattle.filter.proofs.transition.pitch_changed.Goals as goal

pub returns : goal.returns
returns c =
    let a = c.args in
    let s = a.spans in
    let aside =
    part_aside c.filter_run.new.y c.set_aside-z.result (s.history - 16) (s.history + s.fade) (16 + s.fade)
    (omega arith) (omega arith) (omega (arith, c.filter_run.auto.y)) c.set_aside-z.ensures in
    changed_line s.fade s.history a.x.now a.y.now c.requires.0 (kept_as a.old) (kept_as a.new) _ _ _ _ c.requires.2
    c.filter_run.ensures aside.1 c.filter_run-2.ensures c.filter_run-3.ensures
