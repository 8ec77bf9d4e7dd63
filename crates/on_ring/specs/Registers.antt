-- The registers of a decoder on a ring: which are fit, and those after a frame.
use Rattle.rates.specs.declared.answer.Refusal.{Refusal}
use Rattle.std.specs.Prelude.{ℕ, ◌%◌, Bool, cond, ◌&&◌, ltb, eqb, Result, Ok, Err}
use Rattle.rates.specs.Configs.{config_of}
use Rattle.rates.specs.declared.answer.Refusal.TheVariants.{UnfitState}
use Rattle.rates.specs.declared.config.Lc3Config.{Lc3Config}
use Rattle.control.specs.State.{fit}
use Rattle.control.specs.Next.{next_marks}
use Rattle.judging.specs.declared.plan.Plan.{Plan}
use Rattle.rings.specs.Ring.{next_block}
use Rattle.on_ring.specs.declared.registers.Registers.{Registers}

-- the block start is a multiple of the frame length inside the used history
unfoldable pub block_fits : Lc3Config → ℕ → Bool
block_fits c start = ltb start c.history && eqb (start % c.nf) 0

-- fit marks, and a block start that fits
abbrev pub ring_fits : Lc3Config → Registers → Bool
ring_fits c r = fit c r.marks && block_fits c r.block_start_index

-- an unknown rate or duration is unfit too
abbrev pub fit_as : Registers → Result Lc3Config Refusal → Result Lc3Config Refusal
fit_as r (Err a) = Err UnfitState
fit_as r (Ok c) = cond (ring_fits c r) (Ok c) (Err UnfitState)

-- the configuration of fit registers; others are refused with 9
abbrev pub fit_ring : Registers → Result Lc3Config Refusal
fit_ring r = fit_as r (config_of r.marks.rate r.marks.duration)

-- after a frame: the marks, and the block that follows
abbrev pub moved_on : Registers → Plan → Registers
moved_on r plan = record {
  marks = next_marks r.marks plan.active plan.lag;
  block_start_index = next_block plan.config.history plan.config.nf r.block_start_index;
}
