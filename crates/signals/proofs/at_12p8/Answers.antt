-- `at_12p8` puts the past in, and where the set and the step are usable the frame after it.
use mathlib.Core.Path.{sym, ◌∙◌}
use borrow.Author.Rules.{rules}
use Rattle.resampling.specs.Resample.{resampled_into}
use Rattle.signals.specs.Signals.{made12p8, left12p8}
use Rattle.signals.proofs.Fronts.{fronted}
use Rattle.signals.proofs.at_12p8.Goals as goal

pub returns-then-not-resample : goal.returns-then-not-resample
unfolding made12p8 left12p8 resampled_into
returns-then-not-resample c =
    let past_in = fronted c.args.y.now c.args.past.now c.put.new.into 276 (search rules) (search rules) c.put.ensures in
    let no = sym c.resample.ensures.done ∙ c.if-not-resample.true in
    record { after = rw no; signal = rw (c.resample.ensures.signal, no) past_in }

pub returns : goal.returns
unfolding made12p8 left12p8 resampled_into
returns c =
    let past_in = fronted c.args.y.now c.args.past.now c.put.new.into 276 (search rules) (search rules) c.put.ensures in
    let yes = sym c.resample.ensures.done ∙ c.if-not-resample.false in
    record {
      after = rw (c.high_pass.ensures.after, c.resample.ensures.signal, yes, c.lengths_of-l.ensures, past_in);
      signal = rw (c.high_pass.ensures.signal, c.resample.ensures.signal, yes, c.lengths_of-l.ensures, past_in);
    }
