-- The replay byte by byte: what the machine for any listing does by the rules of this one.
use Rattle.std.specs.Prelude.{ℕ, List}
use Rattle.lines.specs.Calls as calls
use Rattle.lines.specs.declared.machine.Listing.{Listing}
use Rattle.replay_listing.specs.ByMarks.{marks_rules}
use Rattle.replay_listing.specs.declared.machine.Replay.{Replay}

abbrev pub begun : Listing Replay
begun = calls.first marks_rules

-- the listing after some bytes, and the text that they make
abbrev pub after : Listing Replay → List ℕ → Listing Replay
after m bytes = calls.after marks_rules m bytes

abbrev pub text : Listing Replay → List ℕ → List ℕ
text m bytes = calls.text marks_rules m bytes

-- how many bytes a call takes: all, or those before the first at which fewer than 169 bytes are free to write into, which any row fits
abbrev pub taken : Listing Replay → List ℕ → ℕ → ℕ
taken m bytes free = calls.taken marks_rules m bytes free

-- a last line without a newline has a row too
abbrev pub last_text : Listing Replay → List ℕ
last_text m = calls.last_text marks_rules m
