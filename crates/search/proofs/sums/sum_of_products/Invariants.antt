-- `sum_of_products` adds one product a turn.
use mathlib.Core.Path.{◌≡◌}
use lib.ListN.{length}
use Rattle.lanes.specs.Sums.{product_sum, window}
use Rattle.search.proofs.sums.sum_of_products.Given as goal

abbrev pub invariant-loop-p : goal.invariant-loop-p
invariant-loop-p l = l.sum ≡ product_sum (window l.fn.x l.fn.a) (window l.fn.x l.fn.b) (length l.yielded)
