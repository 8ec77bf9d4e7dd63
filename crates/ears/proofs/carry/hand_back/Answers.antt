-- `hand_back`: where no sample changes, and where both ears are refused, the buffer is as it was.
use mathlib.Core.Path.{sym}
use Rattle.interleave.proofs.Buffers.{turned}
use Rattle.ears.proofs.Aside.{unchanged}
use Rattle.ears.proofs.carry.hand_back.Goals as goal

pub returns-then-not-changes-2 : goal.returns-then-not-changes-2
returns-then-not-changes-2 c =
    let a = c.args in
    rw (
      unchanged a.left a.left_start a.left_outputs.now _ c.requires.2 (c.changes.ensures c.if-not-changes.true),
      unchanged a.right a.right_start a.right_outputs.now _ c.requires.3 (c.changes-then-not-changes.ensures c.if-not-changes-2.true),
    )
    (sym (turned a.samples.now))

pub returns-in-Err-Err : goal.returns-in-Err-Err
returns-in-Err-Err c = rw (c.in-Err-Err.is-0, c.in-Err-Err.is-1) (sym (turned c.args.samples.now))
