-- `interleave` copies a sample of each ear back a turn.
use Rattle.std.proofs.Common.{ℕ, List, Float, ◌+◌, ◌*◌, ◌≤◌, ◌≡◌, ◌∙◌, length, take, drop, arith}
use lib.ListN.{length-drop}
use lib.Seq.{length-take-le, get_or-take, get_or-drop}
use lib.Ieee.{nan}
use Rattle.slices.proofs.Pasted.{none_pasted}
use Rattle.interleave.proofs.Buffers.{pair_pasted, pairs_pasted}
use Rattle.interleave.proofs.interleave.Goals as goal

-- a part of an array that holds it
part_long : (n at : ℕ) (l : List Float) → at + n ≤ length l → length (take n (drop at l)) ≡ n
part_long n at l h = length-take-le n (drop at l) (simp length-drop (omega arith))

pub loop-i-init : goal.loop-i-init
loop-i-init c = none_pasted c.args.samples.now 0 _

pub loop-i-preserved : goal.loop-i-preserved
loop-i-preserved c =
    let a = c.args in
    let s = c.requires in
    let i = c.loop-i.i in
    let l = take a.nf (drop a.left_at a.left.now) in
    let r = take a.nf (drop a.right_at a.right.now) in
    let left = get_or-take a.nf (drop a.left_at a.left.now) i nan (omega arith) ∙ get_or-drop a.left_at a.left.now i nan in
    let right = get_or-take a.nf (drop a.right_at a.right.now) i nan (omega arith) ∙ get_or-drop a.right_at a.right.now i nan in
    rw c.loop-i.invariant
    (rw (left, right) at (pair_pasted l r a.nf (part_long a.nf a.left_at a.left.now s.1) (part_long a.nf a.right_at a.right.now s.2) a.samples.now i s.0 (omega arith)))

pub returns : goal.returns
returns c =
    let a = c.args in
    let s = c.requires in
    let e : 2 * c.loop-i.i ≡ 2 * a.nf = omega arith in
    rw e at c.loop-i.invariant
    ∙ pairs_pasted _ _ a.nf (part_long a.nf a.left_at a.left.now s.1) (part_long a.nf a.right_at a.right.now s.2) a.samples.now s.0
