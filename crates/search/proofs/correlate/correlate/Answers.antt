-- `correlate` makes the test, and then correlates.
use mathlib.Core.Path.{◌≡◌, sym, ◌∙◌}
use mathlib.Core.Bool.{true}
use lib.ListN.{length}
use Rattle.search.specs.Correlate.{lags_inside, correlated_into}
use Rattle.search.proofs.Correlates.{inside_facts}
use Rattle.search.proofs.correlate.correlate.Goals as goal

pub returns-then-not-lags_inside : goal.returns-then-not-lags_inside
unfolding correlated_into
returns-then-not-lags_inside c = rw (sym c.lags_inside.ensures ∙ c.if-not-lags_inside.true)

pub correlate_inside-requires : goal.correlate_inside-requires
correlate_inside-requires c =
    let yes : let a = c.args in
    lags_inside (length a.x.now) a.start a.len a.from (length a.r.now) ≡ true =
    sym c.lags_inside.ensures ∙ c.if-not-lags_inside.false in
    let u = inside_facts _ _ _ _ _ yes in record { len_in_bounds = (u.frame, u.lags.0, u.lags.1); in_bounds = (u.few.0, u.few.1) }

pub returns : goal.returns
unfolding correlated_into
returns c =
    let yes : let a = c.args in
    lags_inside (length a.x.now) a.start a.len a.from (length a.r.now) ≡ true =
    sym c.lags_inside.ensures ∙ c.if-not-lags_inside.false in
    rw yes c.correlate_inside.ensures
