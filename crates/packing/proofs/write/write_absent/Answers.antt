-- `write_absent`: the form is one byte.
use Rattle.std.proofs.Common.{None, Ok}
use Prim.Native.Nat.{ℕ}
use mathlib.Core.Path.{refl, sym, ap, ◌∙◌}
use mathlib.Core.List.{List, [], ◌∷◌}
use borrow.Author.Rules.{rules}
use borrow.Author.Tests.{lt-ltb}
use lib.ListN.{length}
use lib.Seq.{sets-eq}
use Rattle.packing.specs.Bits.{bytes_of, value_of}
use Rattle.packing.specs.Form.{form}
use Rattle.packing.specs.Writings.{sent_writing}
use Rattle.packing.specs.declared.write.Writing.{Writing}
use Rattle.packing.proofs.ByBytes.{written_over}
use Rattle.packing.proofs.write.write_absent.Goals as goal

pub returns : goal.returns
unfolding form bytes_of value_of
returns c =
    let bytes : List ℕ = c.args.bytes.now in
    ap {B = Writing × List ℕ} (λ (after : List ℕ). (record { answer = (Ok tt); written = 1 }, after)) (sets-eq (0 ∷ []) bytes 0 (search rules))
    ∙ sym (written_over None (0 ∷ []) bytes refl refl (search rules))

pub returns-then-is_empty : goal.returns-then-is_empty
unfolding sent_writing form bytes_of
returns-then-is_empty c = rw (c.refused.ensures, lt-ltb (length c.args.bytes.now) 1 (search rules))
