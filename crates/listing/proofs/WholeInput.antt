-- The listing of the whole input, in one piece and in any cuts: what holds of any listing, by the rules of this one.
use Rattle.std.proofs.Common.{◌≡◌, ℕ, ◌<◌, ◌≤◌, List, ◌++◌, length, refl}
use Rattle.lines.specs.Listings.{Decided}
use Rattle.lines.specs.Machine.{Call, begun, called_all, whole_text, serving}
use Rattle.lines.specs.declared.machine.Listing.{Listing}
use Rattle.lines.proofs.Cuts as cuts
use Rattle.lines.proofs.WholeInput as whole
use Rattle.listing.specs.Whole.{header, lag_rules, listing}
use Rattle.listing.specs.Machine.{first, after, text, taken, last_text}
use Rattle.listing.specs.declared.machine.Known.{Known}
use Rattle.lag_rows.proofs.LongLines.{first_bytes}

-- a line's first 32 bytes are answered as the line is
pub decided : Decided lag_rules
decided = record { moves = λ s line. refl; answers = λ s line. rw (first_bytes line) }

-- two runs of bytes, one after the other
pub after_append : (m : Listing Known) (a b : List ℕ) → after m (a ++ b) ≡ after (after m a) b
after_append m a b = cuts.after_append lag_rules m a b

pub one_piece : (input : List ℕ) → header ++ text first input ++ last_text (after first input) ≡ listing input
one_piece input = whole.one_piece lag_rules decided input

-- a call that is offered a byte and has space for a row takes at least one byte
pub progress : (m : Listing Known) (offered : List ℕ) (free : ℕ) → 0 < length offered → 106 ≤ free → 0 < taken m offered free
progress m offered free l r = cuts.progress lag_rules m.known m.held offered free l r

-- Calls are fed what is left of the input, each offered any number of its bytes and any buffer. If at least as many of them as the
-- input has bytes are offered one and have 106 bytes of space, all is taken, and what was written is the listing of the whole input.
pub any_cuts : (input : List ℕ) (cs : List Call) → length input ≤ serving lag_rules cs →
    whole_text lag_rules (called_all lag_rules (begun lag_rules input) cs) ≡ listing input
any_cuts input cs l = whole.any_cuts lag_rules decided input cs l
