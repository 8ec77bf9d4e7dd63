-- What a frame call of the decoder comes to: refused with the state as it was, or done with registers that C's numbers can hold.
use Rattle.rates.specs.declared.answer.Refusal.{Refusal}
use Rattle.std.proofs.Common.{Result, Ok, Err}
use Prim.Native.Nat.{ℕ, ◌+◌, ◌<◌, ◌^◌}
use mathlib.Core.Path.{◌≡◌, refl, sym, ap}
use mathlib.Core.Bool.{Bool, true, false, cond}
use mathlib.Core.List.{List}
use native.Mathlib.Omega.{arith}
use lib.Dec.{eqb}
use lib.Ieee.{Float}
use lib.ListN.{length}
use Rattle.rates.specs.declared.config.Lc3Config.{Lc3Config}
use Rattle.control.specs.Next.{next_marks}
use Rattle.judging.specs.Judge.{plan_of, judged}
use Rattle.judging.specs.declared.plan.Plan.{Plan}
use Rattle.judging.proofs.Judging as judging
use Rattle.judging.proofs.Judging.{declined, passed, verdict}
use Rattle.rings.specs.Ring.{next_block}
use Rattle.on_ring.specs.Registers.{ring_fits, fit_as}
use Rattle.on_ring.specs.Required.{Judged}
use Rattle.on_ring.proofs.Checks.{block_fits_lem}
use Rattle.decoder.specs.State.{fit_decoder}
use Rattle.decoder.specs.Frame.{framed_as, done, accepted, framed_with, framed}
use Rattle.decoder.specs.declared.state.Decoder.{Decoder}
use Rattle.decoder.specs.declared.frame.Framed.{Framed}
use Rattle.settling_laws.specs.Calls.{Given, framed_by}
use Rattle.telling.proofs.Agreement.{Agree, refused, accepted as agreed, frame_agrees}
use Rattle.c_arrays.specs.Registers.{Fits32}
use Rattle.c_telling.specs.Required.{Narrow}
use Rattle.c_telling.proofs.Narrow.{plan_small}

-- where a frame is accepted, its plan is what is told
as_accepted : {v w : Result Plan Refusal} {plan : Plan} → Agree v w → v ≡ Ok plan → w ≡ Ok plan
as_accepted (refused answer h) e = let z : ◌≡◌ {A = ℕ} 0 1 = cc in absurd (omega arith)
as_accepted (agreed plan) e = e

module _ (d : Decoder) {plan : Plan} {nums dens frame : List Float} (j : Judged d.registers nums dens frame plan) where
  next_start : next_block plan.config.history plan.config.nf d.registers.block_start_index < 2 ^ 32
  next_start = go (eqb (d.registers.block_start_index + plan.config.nf) plan.config.history)
    where
      go : (b : Bool) → cond b 0 (d.registers.block_start_index + plan.config.nf) < 2 ^ 32
      go true = omega arith
      go false = omega (arith, block_fits_lem j)

  -- the lag is one that is told of this plan, which C's numbers hold
  next_lag : Narrow plan.lag
  unfolding judged
  next_lag =
      let r = d.registers in
      let agrees = frame_agrees r.marks nums dens j.side (λ c. eqb (length frame) c.nf) frame (fit_decoder d) in
      (plan_small r j.side plan (as_accepted agrees j.verdict)).0

  next_fits : Fits32 (accepted d plan nums dens frame).0.registers
  unfolding accepted next_marks
  next_fits = record { block = next_start; whole = next_lag.whole; quarter = next_lag.quarter }

-- what a frame call can give
pub data Outcome (d : Decoder) (samples : List Float) : Framed × List Float → Type 0 where
  refusal : (b : Refusal) → Outcome d samples (framed_as (Err b) d, samples)
  success : (next : Decoder) (out : List Float) → Fits32 next.registers → Outcome d samples (done (next, out))

pub outcome : (d : Decoder) (f : Given) → Outcome d f.samples (framed_by d f)
unfolding framed judged
outcome d f = go (fit_decoder d) refl
  where
    by_verdict : (c : Lc3Config) → fit_decoder d ≡ Ok c → (o : judging.Outcome c f.numerators f.denominators f.side f.samples) →
        judged d.registers.marks (Ok c) f.numerators f.denominators f.side f.samples
        ≡ verdict c f.numerators f.denominators f.side f.samples d.registers.marks o →
        Outcome d f.samples (framed_with d f.numerators f.denominators f.samples
        (judged d.registers.marks (Ok c) f.numerators f.denominators f.side f.samples))
    by_verdict c k (declined a l h) q = rw q (refusal a)
    by_verdict c k (passed lag p) q =
        let j : Judged d.registers f.numerators f.denominators f.samples (plan_of d.registers.marks c f.side lag) =
        record { side = f.side; verdict = rw k q } in
        rw q (success _ _ (next_fits d j))

    go : (k : Result Lc3Config Refusal) → fit_decoder d ≡ k →
        Outcome d f.samples (framed_with d f.numerators f.denominators f.samples
        (judged d.registers.marks k f.numerators f.denominators f.side f.samples))
    go (Err a) e = refusal a
    go (Ok c) e =
        let o = judging.outcome c f.numerators f.denominators f.side f.samples in
        by_verdict c e o.0 (o.1 d.registers.marks)
