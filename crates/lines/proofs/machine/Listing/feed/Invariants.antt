-- `feed` goes line by line, as `Going` says.
use Rattle.std.proofs.Common.{◌-◌, length}
use Rattle.lines.specs.Listings.{rules_of}
use Rattle.lines.proofs.Feeding.{Going}
use Rattle.lines.proofs.machine.Listing.feed.Given as goal

abbrev pub invariant-loop-used : goal.invariant-loop-used
invariant-loop-used g l = Going (rules_of g.S.State.rows) l.input l.initial.out l.initial.known l.initial.held l.out l.known l.held l.at l.used

abbrev pub decreases-loop-used : goal.decreases-loop-used
decreases-loop-used g l = length l.input - l.used
