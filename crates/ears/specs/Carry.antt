-- What the three steps of an ear's frame do, by its verdict. No promise of a public function names any of it.
use Rattle.rates.specs.declared.answer.Refusal.{Refusal}
use Rattle.judging.specs.declared.plan.Plan.{Plan}
use Rattle.std.specs.Prelude.{ℕ, List, Float, Result, Ok, Err}
use Rattle.slices.specs.Slices.{stored}
use Rattle.coefficients.specs.Coefficients.{laid_out}
use Rattle.rings.specs.Samples.{block_at, filtered_block}
use Rattle.judging.specs.Filters.{kept_filter, filter_for}
use Rattle.on_ring.specs.Registers.{moved_on}
use Rattle.decoder.specs.declared.frame.FramedInPlace.{FramedInPlace}
use Rattle.interleave.specs.Turns.{lefts, rights, in_turn}
use Rattle.ears_judging.specs.declared.ear.Ear.{Ear}
use Rattle.ears.specs.declared.carry.Which.{Which}
use Rattle.ears.specs.declared.carry.Which.TheVariants.{Left, Right}

-- the ring of inputs, once an accepted ear's samples are taken up
abbrev pub taken_up : Result Plan Refusal → ℕ → List Float → List Float → List Float
taken_up (Err answer) start own xs = xs
taken_up (Ok plan) start own xs = stored xs start own

-- what an ear gives back, its coefficients, and its ring of outputs
abbrev pub stepped : Ear → Result Plan Refusal → List Float → List Float → List Float → List Float → List Float → FramedInPlace × List Float × List Float
stepped ear (Err refusal) kept xs ys numerators denominators = (record { answer = Err refusal; registers = ear.registers }, kept, ys)
stepped ear (Ok plan) kept xs ys numerators denominators = (
  record { answer = Ok tt; registers = moved_on ear.registers plan },
  laid_out (filter_for plan numerators denominators),
  filtered_block plan.transition (kept_filter plan.config.fs ear.registers.marks kept) (filter_for plan numerators denominators) plan.config
      ear.registers.block_start_index xs ys,
)

-- the samples that come back to the buffer
abbrev pub handed : Result Plan Refusal → ℕ → List Float → List Float → List Float
handed (Err answer) start ys own = own
handed (Ok plan) start ys own = block_at plan.config start ys

-- a buffer with other samples for one ear
abbrev pub with_one : Which → List Float → List Float → List Float
with_one Left own buffer = in_turn own (rights buffer)
with_one Right own buffer = in_turn (lefts buffer) own
