-- `judge_both`: both ears have the configuration that the left one names.
use mathlib.Core.Path.{sym, ◌∙◌}
use native.Mathlib.Omega.{arith}
use Rattle.control.proofs.Sizes.{from_table, sized}
use Rattle.control.proofs.Tested.{passed}
use Rattle.ears_judging.proofs.Verdicts.{both_alike}
use Rattle.ears_judging.proofs.judge.judge_both.Goals as goal

pub judge_alike-requires : goal.judge_alike-requires
judge_alike-requires c =
    let m = c.args.left.registers.marks in
    let s = sized _ (from_table m.rate m.duration _ (sym c.config.ensures ∙ c.in-Ok.is)) in
    record { some = s.frame_some; most = omega (arith, s.twice, s.line_fits) }

pub returns-in-Ok : goal.returns-in-Ok
returns-in-Ok c =
    let a = c.args in
    c.judge_alike.ensures
    ∙ sym (both_alike a.left a.right a.set.numerators.now a.set.denominators.now a.nbits a.samples.now (passed c.named_alike.ensures c.if-not-named_alike.false) _
    (sym c.config.ensures ∙ c.in-Ok.is))
