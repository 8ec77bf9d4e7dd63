-- `look_up` finds a lag that C's numbers hold.
use borrow.Author.Rules.{rules}
use Rattle.c_telling.specs.Required.{Narrow}
use Rattle.c_telling.proofs.Narrow.{looked_up_narrow}
use Rattle.c_telling.proofs.lookup.look_up.Goals as goal

pub overflow_cast-result : goal.overflow_cast-result
overflow_cast-result c =
    let found = c.in-Some-look_up_lag.found in
    let narrow : Narrow found.lag = looked_up_narrow c.args.rate c.in-Some.fs (search rules) c.args.index found (search rules) in
    record { fits = narrow.whole }
