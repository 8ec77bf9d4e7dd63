-- A listing in calls, its state and what is held of a line as one value.
use Rattle.std.specs.Prelude.{ℕ, List}
use Rattle.lines.specs.Listings.{Rules}
use Rattle.lines.specs.Machine as machine
use Rattle.lines.specs.declared.machine.Listing.{Listing}

module _ (L : Rules) where
  -- before the first line
  abbrev pub first : Listing L.State
  first = record { known = L.first; held = machine.nothing_held }

  -- the listing after some bytes, and the text that they make
  abbrev pub after : Listing L.State → List ℕ → Listing L.State
  after m bytes = record { known = machine.state_after L m.known m.held bytes; held = machine.held_after m.held bytes }

  abbrev pub text : Listing L.State → List ℕ → List ℕ
  text m bytes = machine.text L m.known m.held bytes

  -- how many bytes a call takes: all, or those before the first at which there may be no space for a row
  abbrev pub taken : Listing L.State → List ℕ → ℕ → ℕ
  taken m bytes free = machine.taken L m.known m.held bytes free

  -- a last line without a newline has a row too
  abbrev pub last_text : Listing L.State → List ℕ
  last_text m = machine.last_text L m.known m.held
