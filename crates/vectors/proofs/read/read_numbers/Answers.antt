-- `read_numbers` reads into the part of its buffer that the numbers take.
use Rattle.std.proofs.Common.{ℕ, ◌≤◌, ◌*◌, ◌≡◌, ◌∙◌, sym, ◌++◌, List, [], Bool, true, false, arith, refl, length, take, drop, replicate}
use Rattle.std.proofs.lemmas.Bool.{le-leb, lt-leb}
use native.Mathlib.Nat.{mul-zero}
use Rattle.std.proofs.lemmas.List.{length-take-le}
use Rattle.vectors.specs.Parts.{first_of, filled, part, NumbersRead}
use Rattle.vectors.proofs.read.read_numbers.Goals as goal

-- the entries that are stored, and the zeros after them, are what is read
read_of : {A : Type 0} (whole : Bool) (none z : A) (entry_at : List ℕ → ℕ → A) (count : ℕ) (bytes : List ℕ) (stored : List A) → count ≤ 1024 → z ≡ none → stored ≡ first_of (entry_at bytes) (length (take count (replicate 1024 z))) → (count ≡ 0 → whole ≡ true) →
    NumbersRead none entry_at count (part whole (record { values = stored ++ drop count (replicate 1024 z); count = count }))
unfolding filled
read_of whole none z entry_at count bytes stored h zero e nothing =
    let n : length (take count (replicate 1024 z)) ≡ count = length-take-le count (replicate 1024 z) h in
    record { bytes = bytes; whole = whole; equal = rw (le-leb count 1024 h, e, n, zero); nothing = nothing }

-- no numbers take no bytes
no_bytes : (width count : ℕ) (bytes : List ℕ) → count ≡ 0 → length (take (width * count) bytes) ≡ 0
no_bytes width count bytes none = rw (none, mul-zero) refl

pub returns-then-is_whole : goal.returns-then-is_whole
returns-then-is_whole g c = read_of true g.T.Entry.ZERO _ g.T.Entry.entry_at _ _ _ (omega arith) c.ZERO-values.ensures c.put_entries.ensures (λ _. refl)

pub returns-else-is_whole : goal.returns-else-is_whole
returns-else-is_whole g c =
    let read = c.read_bytes-is_whole in
    read_of false g.T.Entry.ZERO _ g.T.Entry.entry_at _ _ _ (omega arith) c.ZERO-values.ensures c.put_entries.ensures
    (λ none. sym c.if-is_whole.false ∙ read.ensures (no_bytes _ _ _ none))

pub returns-then-count-gt-MOST : goal.returns-then-count-gt-MOST
returns-then-count-gt-MOST g c =
    record { bytes = []; whole = false; equal = rw (lt-leb c.args.count 1024 (omega arith), c.ZERO-values.ensures); nothing = λ none. absurd (omega arith) }
