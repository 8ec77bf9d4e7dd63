-- `pump` goes on until nothing of its input is left: each turn takes at least a byte.
use Rattle.std.proofs.Common.{◌≡◌, length}
use Rattle.lines.specs.Listings.{rules_of}
use Rattle.lines.specs.Calls.{after}
use Rattle.listing_stream.proofs.pump.Given as goal

abbrev pub invariant-loop-rest : goal.invariant-loop-rest
invariant-loop-rest g l = after (rules_of g.S.State.rows) l.fn.from l.input ≡ after (rules_of g.S.State.rows) l.listing l.rest

abbrev pub decreases-loop-rest : goal.decreases-loop-rest
decreases-loop-rest g l = length l.rest
