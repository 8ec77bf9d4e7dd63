-- `filter_active`: the new filter is read back from the coefficients that were computed.
use mathlib.Core.Path.{◌≡◌, refl}
use Rattle.coefficients.specs.Coefficients.{laid_out}
use Rattle.judging.specs.Filters.{filter_for}
use Rattle.on_ring.proofs.NewFilter.{read_new}
use Rattle.on_ring.proofs.planned.filter_active.Goals as goal

pub filter_block-requires : goal.filter_block-requires
filter_block-requires c =
    let a = c.args in
    let new : c.compute_filter_coeffs-new.result ≡ laid_out (filter_for a.plan a.set.numerators.now a.set.denominators.now) =
    c.compute_filter_coeffs-new.ensures a.plan.lag refl in
    rw (new, read_new a.plan a.set.numerators.now a.set.denominators.now c.requires.rows.most c.requires.lagless) c.requires.filterable

pub returns : goal.returns
returns c =
    let a = c.args in
    let new : c.compute_filter_coeffs-new.result ≡ laid_out (filter_for a.plan a.set.numerators.now a.set.denominators.now) =
    c.compute_filter_coeffs-new.ensures a.plan.lag refl in
    (new, rw (new, read_new a.plan a.set.numerators.now a.set.denominators.now c.requires.rows.most c.requires.lagless) at c.filter_block.ensures)
