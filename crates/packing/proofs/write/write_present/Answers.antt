-- `write_present`: 7, then 15, then both bytes of the form.
use Rattle.std.proofs.Common.{Some, Ok}
use Prim.Native.Nat.{ℕ}
use mathlib.Core.Path.{refl, sym, ap, ap₂, ◌∙◌}
use mathlib.Core.List.{List, [], ◌∷◌}
use borrow.Author.Rules.{rules}
use borrow.Author.Tests.{lt-ltb, le-ltb}
use lib.ListN.{drop}
use lib.Seq.{sets-eq}
use Rattle.packing.specs.Bits.{bits_of, bytes_of}
use Rattle.packing.specs.Form.{form}
use Rattle.packing.specs.Writings.{sent_writing}
use Rattle.packing.specs.declared.write.Writing.{Writing}
use Rattle.packing.proofs.ByBytes.{written_over}
use Rattle.packing.proofs.write.write_present.Goals as goal

pub returns-then-present-gt511 : goal.returns-then-present-gt511
unfolding sent_writing
returns-then-present-gt511 c = rw (c.refused.ensures, lt-ltb 511 c.args.present.index c.if-present-gt511.true)

pub returns-then-bytes-lt2 : goal.returns-then-bytes-lt2
unfolding sent_writing form bytes_of bits_of
returns-then-bytes-lt2 c = rw (c.refused-then-bytes-lt2.ensures, le-ltb 511 _ c.if-present-gt511.false, lt-ltb _ _ c.if-bytes-lt2.true)

pub returns : goal.returns
unfolding form bytes_of bits_of
returns c =
    let bytes : List ℕ = c.args.bytes.now in
    let packed : List ℕ = form (Some c.args.present) in
    ap {B = Writing × List ℕ} (λ (after : List ℕ). (record { answer = (Ok tt); written = 2 }, after))
    (sets-eq (c.first_byte.result ∷ c.second_byte.result ∷ []) bytes 0 (search rules)
    ∙ ap₂ {C = List ℕ} (λ (x y : ℕ). x ∷ y ∷ drop 2 bytes) c.first_byte.ensures c.second_byte.ensures)
    ∙ sym (written_over (Some c.args.present) packed bytes (le-ltb 511 _ c.if-present-gt511.false) refl (search rules))
