-- A line of 12 bytes or more is malformed: two fields of five bytes and a tab are eleven.
use Prim.Native.Nat.{ℕ, ◌≤◌}
use mathlib.Core.Path.{◌≡◌, refl}
use mathlib.Core.List.{List}
use native.Mathlib.Omega.{arith}
use lib.ListN.{length, take}
use Rattle.lines.specs.Fields.{malformed, before_tab, after_tab, field_of}
use Rattle.std.proofs.Common.{Option, Some, None, Result, Ok, Err}
use Rattle.rates.specs.declared.answer.Refusal.TheVariants.{MalformedLine}
use Rattle.lines.specs.declared.field.Malformed.{Malformed}
use Rattle.lines.proofs.Numbers.{long_field, parted}
use Rattle.lines.proofs.HeldLines.{first_32}
use Rattle.lag_rows.specs.Rows.{answer_to, looked_up, refused_row}

no_index : (f : Result (Option ℕ) Malformed) → looked_up f malformed ≡ refused_row MalformedLine
no_index (Ok None) = refl
no_index (Ok (Some n)) = refl
no_index (Err e) = refl

long_line : (s : List ℕ) → 12 ≤ length s → answer_to s ≡ refused_row MalformedLine
unfolding answer_to
long_line s h =
    parted 5 5 s _ _ (omega arith)
    (λ l. rw (long_field 5 (before_tab s) (omega arith) l))
    (λ l. rw (long_field 5 (after_tab s) (omega arith) l) (no_index (field_of 5 (before_tab s))))

-- so its first 32 bytes are answered as the line is, and they are all that is held
pub first_bytes : (s : List ℕ) → answer_to (take 32 s) ≡ answer_to s
first_bytes s = first_32 answer_to (refused_row MalformedLine) (λ l h. long_line l (omega arith)) s
