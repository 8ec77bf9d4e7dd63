-- `read_number` reads digit after digit; what it holds stays below a power of ten.
use Prim.Native.Nat.{◌≤◌, ◌<◌, ◌^◌}
use mathlib.Core.Path.{◌≡◌}
use lib.ListN.{drop, length}
use Rattle.lines.specs.Fields.{digits_after, number_of}
use Rattle.lines.proofs.field.read_number.Given as goal

abbrev pub invariant-loop-b : goal.invariant-loop-b
invariant-loop-b l =
    (length l.s ≤ 9) × (l.value < 10 ^ l.b-index) × (number_of l.most l.s ≡ digits_after l.value (drop l.b-index l.s))
