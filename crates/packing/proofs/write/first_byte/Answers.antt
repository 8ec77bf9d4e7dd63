-- `first_byte`: the highest eight bits of the form.
use Prim.Native.Nat.{ℕ, ◌*◌, ◌≤◌}
use mathlib.Core.Path.{◌≡◌, sym, ap, ◌∙◌}
use mathlib.Core.Bool.{Bool, true, false, cond}
use mathlib.Core.List.{List}
use native.Mathlib.Omega.{arith}
use mir.Val.{bool_byte}
use lib.ListN.{get_or}
use Rattle.packing.proofs.ByBytes.{form_present}
use Rattle.packing.proofs.write.first_byte.Goals as goal

weight : (on : Bool) → (64 * bool_byte on ≡ cond on 64 0) × (bool_byte on ≤ 1)
weight true = (omega arith, omega arith)
weight false = (omega arith, omega arith)

pub returns : goal.returns
returns c =
    let p = c.args.present in
    omega (arith, c.requires, weight p.active) ∙ ap (λ (bytes : List ℕ). get_or bytes 0 0) (sym (form_present p.index p.active))
