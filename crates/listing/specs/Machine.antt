-- The listing byte by byte: what the machine for any listing does by the rules of this one.
use Rattle.std.specs.Prelude.{ℕ, List}
use Rattle.lines.specs.Calls as calls
use Rattle.lines.specs.declared.machine.Listing.{Listing}
use Rattle.listing.specs.Whole.{lag_rules}
use Rattle.listing.specs.declared.machine.Known.{Known}

abbrev pub first : Listing Known
first = calls.first lag_rules

-- the listing after some bytes, and the text that they make
abbrev pub after : Listing Known → List ℕ → Listing Known
after m bytes = calls.after lag_rules m bytes

abbrev pub text : Listing Known → List ℕ → List ℕ
text m bytes = calls.text lag_rules m bytes

-- how many bytes a call takes: all, or those before the first at which fewer than 106 bytes are free to write into, which any row fits
abbrev pub taken : Listing Known → List ℕ → ℕ → ℕ
taken m bytes free = calls.taken lag_rules m bytes free

-- a last line without a newline has a row too
abbrev pub last_text : Listing Known → List ℕ
last_text m = calls.last_text lag_rules m
