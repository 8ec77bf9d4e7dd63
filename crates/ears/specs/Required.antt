-- What the private functions of this crate ask of their callers. No promise of a public function names any of it.
use Rattle.rates.specs.declared.answer.Refusal.{Refusal}
use Rattle.std.specs.Prelude.{ℕ, ◌+◌, ◌*◌, ◌≤◌, ◌≡◌, List, Float, length, Result, Ok}
use Rattle.filter.specs.declared.transition.Transition.TheVariants.{Inactive}
use Rattle.rings.specs.Samples.{block_at}
use Rattle.judging.specs.declared.plan.Plan.{Plan}
use Rattle.on_ring.specs.Required.{Filtering}
use Rattle.ears_judging.specs.declared.ear.Ear.{Ear}

-- an accepted ear's block lies inside its ring, in a buffer of two frames
pub record Roomy (plan : Plan) (start : ℕ) (buffer : List Float) : Type 0 where
  pub count : length buffer ≡ 2 * plan.config.nf
  pub most : plan.config.nf ≤ 480
  pub block : start + plan.config.nf ≤ 1080

abbrev pub Room : Result Plan Refusal → ℕ → List Float → Type 0
Room verdict start buffer = (plan : Plan) → verdict ≡ Ok plan → Roomy plan start buffer

-- an accepted ear's ring has all of its entries
abbrev pub Whole : Result Plan Refusal → List Float → Type 0
Whole verdict ring = (plan : Plan) → verdict ≡ Ok plan → length ring ≡ 1080

-- an accepted ear's frame can be filtered between whole rings
pub record Step (ear : Ear) (plan : Plan) (kept xs ys numerators denominators : List Float) : Type 0 where
  pub filtering : length xs ≡ 1080 → length ys ≡ 1080 →
      Filtering ear.registers.marks.lag.whole ear.registers.block_start_index plan kept xs ys numerators denominators
  pub next : ear.registers.block_start_index + plan.config.nf ≤ 1440

abbrev pub Steppable : Ear → Result Plan Refusal → List Float → List Float → List Float → List Float → List Float → Type 0
Steppable ear verdict kept xs ys numerators denominators = (plan : Plan) → verdict ≡ Ok plan → Step ear plan kept xs ys numerators denominators

-- in the first case the outputs are the ear's samples
abbrev pub Still : Result Plan Refusal → ℕ → List Float → List Float → Type 0
Still verdict start ys own = (plan : Plan) → verdict ≡ Ok plan → plan.transition ≡ Inactive → block_at plan.config start ys ≡ own
