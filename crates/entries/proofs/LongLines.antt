-- A line of 32 bytes or more is malformed: three numbers of nine digits, one of one digit and three tabs are 31.
use Prim.Native.Nat.{ℕ, ◌≤◌, ◌<◌}
use mathlib.Core.Path.{◌≡◌, refl}
use mathlib.Core.Bool.{Bool, true, false, cond}
use mathlib.Core.List.{List}
use native.Mathlib.Omega.{arith}
use borrow.Author.Tests.{ne_eqb}
use lib.Dec.{leb}
use lib.ListN.{length, take}
use Rattle.std.proofs.Common.{Option, Result, Ok, Err}
use Rattle.lines.specs.Fields.{has_tab, before_tab, after_tab, malformed, number_of, field_of}
use Rattle.lines.specs.declared.field.Malformed.{Malformed}
use Rattle.lines.proofs.Numbers.{long_number, long_field, parted}
use Rattle.lines.proofs.HeldLines.{first_32}
use Rattle.entries.specs.Sides.{side_of, marks_read, side_read}
use Rattle.entries.specs.Lines.{numbered, with_number, line_read}

-- a malformed field makes the whole malformed, whatever the others are
either : {A : Type 0} (t : Bool) (x : A) → cond t x x ≡ x
either true x = refl
either false x = refl

no_nbits : (pitch : Result (Option ℕ) Malformed) (active : Result ℕ Malformed) → side_of pitch active malformed ≡ malformed
no_nbits pitch (Err e) = refl
no_nbits pitch (Ok mark) = refl

no_pitch : (active nbits : Result ℕ Malformed) → side_of malformed active nbits ≡ malformed
no_pitch (Err e) nbits = refl
no_pitch (Ok mark) (Err e) = refl
no_pitch (Ok mark) (Ok bits) = either (leb mark 1) malformed

-- active and nbits have 1 + 1 + 9 bytes at most, and with pitch before them 9 + 1 + 11
long_marks : (pitch : Result (Option ℕ) Malformed) (s : List ℕ) → 11 < length s → marks_read pitch s ≡ malformed
unfolding marks_read
long_marks pitch s h =
    parted 1 9 s _ _ h
    (λ l. rw (long_number 1 (before_tab s) l))
    (λ l. rw (long_number 9 (after_tab s) l) (no_nbits pitch (number_of 1 (before_tab s))))

no_pitch_text : (s : List ℕ) → marks_read malformed s ≡ malformed
unfolding marks_read
no_pitch_text s = rw (no_pitch (number_of 1 (before_tab s)) (number_of 9 (after_tab s))) (either (has_tab s) malformed)

pub no_pitch_field : (pitch : Result (Option ℕ) Malformed) (s : List ℕ) → pitch ≡ malformed → marks_read pitch s ≡ malformed
no_pitch_field pitch s e = rw e (no_pitch_text s)

long_side : (s : List ℕ) → 21 < length s → side_read s ≡ malformed
unfolding side_read
long_side s h =
    parted 9 11 s _ _ h
    (λ l. rw (long_field 9 (before_tab s) (omega arith) l) (no_pitch_text (after_tab s)))
    (long_marks (field_of 9 (before_tab s)) (after_tab s))

long_rest : (number : Result ℕ Malformed) (s : List ℕ) → 21 < length s → with_number number s ≡ malformed
unfolding numbered
long_rest (Err e) s h = refl
long_rest (Ok frame) s h = rw (ne_eqb (length s) 4 (λ e. omega arith), long_side s h)

pub long_line : (s : List ℕ) → 32 ≤ length s → line_read s ≡ malformed
unfolding line_read
long_line s h = parted 9 21 s _ _ (omega arith) (λ l. rw (long_number 9 (before_tab s) l)) (long_rest (number_of 9 (before_tab s)) (after_tab s))

-- so its first 32 bytes are read as the line is, and they are all that is held
pub first_bytes : (s : List ℕ) → line_read (take 32 s) ≡ line_read s
first_bytes s = first_32 line_read malformed long_line s
