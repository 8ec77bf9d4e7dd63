-- `active_filter` scales the two rows that the definition names, each into its part of the array.
use mathlib.Core.Path.{refl, ◌∙◌}
use lib.Ieee.{of_bits, round}
use Rattle.coefficients.specs.Coefficients.{filter_of}
use Rattle.coefficients.proofs.LaidOut.{second_part, second_replaced}
use Rattle.coefficients.proofs.active_filter.Goals as goal

pub returns : goal.returns
unfolding filter_of of_bits round
returns c lag e =
    let num = c.scale_row in
    let den = (rw (second_part num.new.c _ num.auto.c refl) at c.scale_row-2.ensures) in
    second_replaced num.new.c _ num.auto.c refl c.scale_row-2.new.c
    ∙ rw (
      den,
      num.ensures,
      c.row_of_set-num.ensures,
      c.gain_row.ensures,
      c.row_of_set-den.ensures,
      c.gain_value-value.ensures,
      e,
    )
