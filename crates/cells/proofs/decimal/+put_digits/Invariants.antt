-- `put_digits` calls itself on the tens.
use Rattle.cells.proofs.decimal.+put_digits.Given as goal

abbrev pub decreases-put_digits : goal.decreases-put_digits
decreases-put_digits l = l.n
