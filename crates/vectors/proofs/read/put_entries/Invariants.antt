-- `put_entries`: each turn stores the entry of its place.
use Rattle.std.proofs.Common.{◌≡◌}
use Rattle.vectors.specs.Parts.{filled}
use Rattle.vectors.proofs.read.put_entries.Given as goal

abbrev pub invariant-loop-k : goal.invariant-loop-k
invariant-loop-k g l = l.values ≡ filled (g.T.Entry.entry_at l.bytes) l.k l.initial.values
