-- The replay's listing in calls: what holds of any listing, by the rules of this one.
use Rattle.std.proofs.Common.{◌≡◌, ℕ, ◌<◌, ◌≤◌, List, ◌++◌, length}
use Rattle.lines.specs.declared.machine.Listing.{Listing}
use Rattle.lines.proofs.Cuts as cuts
use Rattle.replay_listing.specs.ByMarks.{marks_rules}
use Rattle.replay_listing.specs.Machine.{after, taken}
use Rattle.replay_listing.specs.declared.machine.Replay.{Replay}

-- two runs of bytes, one after the other
pub after_append : (m : Listing Replay) (a b : List ℕ) → after m (a ++ b) ≡ after (after m a) b
after_append m a b = cuts.after_append marks_rules m a b

-- a call that is offered a byte and has space for a row takes at least one byte
pub progress : (m : Listing Replay) (offered : List ℕ) (free : ℕ) → 0 < length offered → 169 ≤ free → 0 < taken m offered free
progress m offered free l r = cuts.progress marks_rules m.known m.held offered free l r
