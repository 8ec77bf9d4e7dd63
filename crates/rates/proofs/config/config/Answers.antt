-- `config` looks the rate and the duration up, as the definition does; no history of the table is long.
use mathlib.Core.Path.{◌≡◌}
use native.Mathlib.Omega.{arith}
use Rattle.std.proofs.Common.{Some, rules}
use Rattle.rates.specs.Table.{row_of}
use Rattle.rates.specs.declared.table.Rate.{Rate}
use Rattle.rates.proofs.Rows.{bound_at}
use Rattle.rates.proofs.config.config.Goals as goal

pub overflow_mul-nf : goal.overflow_mul-nf
overflow_mul-nf c =
    let found : row_of c.args.hz ≡ Some c.in_ok-fs.fs = search rules in
    omega (arith, bound_at (λ (r : Rate). r.nf_10) (λ _. 480) tt _ _ found)

pub overflow_mul-nf-in-SevenPointFiveMs : goal.overflow_mul-nf-in-SevenPointFiveMs
overflow_mul-nf-in-SevenPointFiveMs c =
    let found : row_of c.args.hz ≡ Some c.in_ok-fs.fs = search rules in
    omega (arith, bound_at (λ (r : Rate). r.nf_7p5) (λ _. 360) tt _ _ found)
