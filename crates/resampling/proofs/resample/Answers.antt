-- `resample` writes where the set has its length and the step is one of the table.
use Rattle.std.proofs.Common.{sym, ◌∙◌}
use Rattle.resampling.specs.Resample.{resampled_into}
use Rattle.resampling.proofs.Steps.{unusable, usable_by}
use Rattle.resampling.proofs.resample.Goals as goal

pub returns-in_default-clause-done : goal.returns-in_default-clause-done
returns-in_default-clause-done c = sym (unusable _ _ c.in_default.ensures.1)

pub returns-in_default-clause-signal : goal.returns-in_default-clause-signal
unfolding resampled_into
returns-in_default-clause-signal c = rw (unusable c.args.filter.now c.args.p c.in_default.ensures.1)

pub returns-then-not-is_step-clause-done : goal.returns-then-not-is_step-clause-done
returns-then-not-is_step-clause-done c = sym (usable_by _ _ _ c.in-Ok.ensures.1.long c.is_step.ensures ∙ c.if-not-is_step.true)

pub returns-then-not-is_step-clause-signal : goal.returns-then-not-is_step-clause-signal
unfolding resampled_into
returns-then-not-is_step-clause-signal c = rw (usable_by c.args.filter.now c.args.p _ c.in-Ok.ensures.1.long c.is_step.ensures, c.if-not-is_step.true)

pub returns-clause-done : goal.returns-clause-done
returns-clause-done c = sym (usable_by _ _ _ c.in-Ok.ensures.1.long c.is_step.ensures ∙ c.if-not-is_step.false)

pub returns-clause-signal : goal.returns-clause-signal
unfolding resampled_into
returns-clause-signal c =
    rw (
      usable_by c.args.filter.now c.args.p _ c.in-Ok.ensures.1.long c.is_step.ensures,
      c.if-not-is_step.false,
      c.write_outputs.ensures,
      c.lengths_of-l.ensures,
      c.in-Ok.ensures.1.same,
    )
