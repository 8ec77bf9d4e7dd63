-- `dot_product` adds one tap a turn.
use Prim.Native.Nat.{ℕ, ◌+◌, ◌≤◌}
use mathlib.Core.Path.{◌≡◌, refl, ◌∙◌}
use native.Mathlib.Omega.{arith}
use borrow.Author.Rules.{rules}
use lib.IntN.{ℤ, pos, neg_ℤ, ◌-ℤ◌}
use lib.Signed.{mag}
use lib.Ieee.{of_bits}
use mir.Syntax.{w32}
use mir.Val.{to_z, of_z}
use Rattle.found.specs.Activation.{dotted}
use Rattle.found.specs.Taps.{moved as moved_by}
use Rattle.found.proofs.Signs.{read_back, offset_read, neg_read}
use Rattle.found.proofs.Turns.{passed, Turn, in_turn, back_turn}
use Rattle.found.proofs.activation.dot_product.Goals as goal

-- the entry that a tap reads
place : (i at : ℕ) (z : ℤ) → 2 ≤ i → Turn 1 z → at ≡ moved_by i (to_z w32 (of_z w32 (pos 0 -ℤ z))) → (at ≡ moved_by i (neg_ℤ z)) × (at ≤ i + 2)
place i at z h t e =
    let is = rw (neg_read z (omega (arith, t.size))).1 at e in
    (is, omega (arith, rw t.number at is, (back_turn i 1 (passed 2 z) h t.over).1))

pub loop-k-init : goal.loop-k-init
unfolding dotted of_bits
loop-k-init c = (refl, search rules, refl)

pub loop-k-preserved : goal.loop-k-preserved
unfolding dotted
loop-k-preserved c =
    let x = c.loop-k in
    let t = in_turn 1 (to_z w32 x.k-bits) (omega arith) x.invariant.0 x.invariant.1 c.loop-k-test.true in
    let d : mag (to_z w32 (of_z w32 c.args.d)) ≤ 3 = rw (read_back c.args.d (omega (arith, c.requires))) c.requires.2 in
    let o = offset_read c.table_offset-h_i_index.result (to_z w32 x.k-bits) (to_z w32 (of_z w32 c.args.d)) c.table_offset-h_i_index.ensures (omega (arith, t.size)) d in
    let p = place c.args.at c.moved.result (to_z w32 x.k-bits) c.requires.0 t c.moved.ensures in
    (t.again, omega (arith, t.next, t.over), c.with_tap-result.ensures ∙ rw (t.next, ← t.number, ← o.0, ← p.0, ← x.invariant.2))
