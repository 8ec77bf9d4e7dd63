-- A frame and a loss mark: what each gives back, refused or not.
use Rattle.rates.specs.declared.answer.Refusal.{Refusal}
use Rattle.rates.specs.declared.config.Lc3Config.{Lc3Config}
use Rattle.std.specs.Prelude.{List, Float, Result, Ok, Err}
use Rattle.slices.specs.Slices.{stored}
use Rattle.rates.specs.Answers.{Answer}
use Rattle.coefficients.specs.Coefficients.{Filter, laid_out}
use Rattle.rings.specs.Samples.{filtered}
use Rattle.control.specs.Next.{unsettled}
use Rattle.judging.specs.Judge.{judged}
use Rattle.judging.specs.Filters.{kept_filter, filter_for}
use Rattle.judging.specs.declared.plan.SideInfo.{SideInfo}
use Rattle.judging.specs.declared.plan.Plan.{Plan}
use Rattle.on_ring.specs.Registers.{moved_on}
use Rattle.decoder.specs.State.{fit_decoder}
use Rattle.decoder.specs.declared.state.Decoder.{Decoder}
use Rattle.decoder.specs.declared.frame.Framed.{Framed}

-- the outputs of a frame with this plan and this filter, after the filter and the pasts that the state keeps
abbrev pub outputs_of : Decoder → Plan → Filter → List Float → List Float
outputs_of d plan new frame =
    filtered plan.transition (kept_filter plan.config.fs d.registers.marks d.kept) new plan.config
    d.registers.block_start_index d.x_hat_mem d.x_hat_ltpf_mem frame

-- an accepted frame: its filter is kept, its inputs and its outputs are stored into the rings at the block start, and the registers move on
unfoldable pub accepted : Decoder → Plan → List Float → List Float → List Float → Decoder × List Float
accepted d plan numerators denominators samples =
    let new = filter_for plan numerators denominators in
    let out = outputs_of d plan new samples in (
      record {
        registers = moved_on d.registers plan;
        kept = laid_out new;
        x_hat_mem = stored d.x_hat_mem d.registers.block_start_index samples;
        x_hat_ltpf_mem = stored d.x_hat_ltpf_mem d.registers.block_start_index out;
      },
      out,
    )

-- a call gives its answer, the settled report and the state; with it go the samples at exit
abbrev pub framed_as : Answer → Decoder → Framed
framed_as answer d = record { answer = answer; settled = d.registers.marks.settled; decoder = d }

-- an accepted frame is answered with 0
abbrev pub done : Decoder × List Float → Framed × List Float
done r = (framed_as (Ok tt) r.0, r.1)

-- a refused frame hands back the same state and samples
abbrev pub framed_with : Decoder → List Float → List Float → List Float → Result Plan Refusal → Framed × List Float
framed_with d numerators denominators samples (Err refusal) = (framed_as (Err refusal) d, samples)
framed_with d numerators denominators samples (Ok plan) = done (accepted d plan numerators denominators samples)

-- a frame call
unfoldable pub framed : Decoder → List Float → List Float → SideInfo → List Float → Framed × List Float
framed d numerators denominators side samples =
    framed_with d numerators denominators samples (judged d.registers.marks (fit_decoder d) numerators denominators side samples)

-- a loss mark changes the marks alone; an unfit state is handed back as it is
abbrev pub lost_with : Decoder → Result Lc3Config Refusal → Framed
lost_with d (Err refusal) = framed_as (Err refusal) d
lost_with d (Ok c) = framed_as (Ok tt) (record {
  registers = record { marks = unsettled d.registers.marks; block_start_index = d.registers.block_start_index };
  kept = d.kept;
  x_hat_mem = d.x_hat_mem;
  x_hat_ltpf_mem = d.x_hat_ltpf_mem;
})

-- a loss mark checks 9 only
unfoldable pub lost_from : Decoder → Framed
lost_from d = lost_with d (fit_decoder d)
