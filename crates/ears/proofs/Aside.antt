-- What hands the outputs back: the samples that are put aside come back, and where no frame changes its samples nothing has to be done.
use Rattle.rates.specs.declared.answer.Refusal.{Refusal}
use Rattle.std.proofs.Common.{Result, Ok, Err}
use Prim.Native.Nat.{ℕ, ◌≤◌}
use mathlib.Core.Path.{◌≡◌, refl}
use mathlib.Core.List.{List}
use native.Mathlib.Omega.{arith}
use lib.Ieee.{Float}
use lib.ListN.{length, take, drop, replicate, length-replicate}
use Rattle.slices.specs.Slices.{stored}
use Rattle.slices.proofs.Stored.{take_stored}
use Rattle.filter.specs.declared.transition.Transition.TheVariants.{Inactive}
use Rattle.judging.specs.declared.plan.Plan.{Plan}
use Rattle.ears.specs.Carry.{handed}
use Rattle.ears.specs.Required.{Still}

-- samples put at the front of 480 entries
pub aside : (v : Float) (others rest : List Float) (nf : ℕ) → others ≡ stored (replicate 480 v) 0 rest → length rest ≡ nf → nf ≤ 480 →
    take nf (drop 0 others) ≡ rest
aside v others rest nf put e h = rw put (take_stored (replicate 480 v) rest 0 nf (omega arith) (simp length-replicate (omega arith)))

-- the outputs of a frame of the first case are its samples
pub unchanged : (v : Result Plan Refusal) (start : ℕ) (ys own : List Float) → Still v start ys own → ((plan : Plan) → v ≡ Ok plan → plan.transition ≡ Inactive) →
    handed v start ys own ≡ own
unchanged (Err refusal) start ys own still idle = refl
unchanged (Ok plan) start ys own still idle = still plan refl (idle plan refl)
