-- `put_number` writes where 20 bytes are left, which any number of 64 bits fits.
use Rattle.std.proofs.Common.{◌∙◌, sym, arith}
use Rattle.std.proofs.lemmas.Bool.{leb-true}
use Rattle.cells.proofs.Decimals.{decimal_64}
use Rattle.cells.proofs.decimal.put_number.Goals as goal

pub put_digits-requires : goal.put_digits-requires
put_digits-requires c = omega (arith, decimal_64 c.args.n (omega arith), leb-true _ _ (sym c.fits.ensures ∙ c.if-not-fits.false))
