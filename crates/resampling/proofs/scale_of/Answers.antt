-- `scale_of` picks as the definition does.
use Rattle.std.proofs.lemmas.Bool.{eq-eqb}
use lib.Ieee.{round, of_bits, of_int}
use Rattle.resampling.proofs.scale_of.Goals as goal

pub returns-then-p-eq24 : goal.returns-then-p-eq24
unfolding round of_bits of_int
returns-then-p-eq24 c = rw (eq-eqb _ _ c.if-p-eq24.true)
