-- Once a rate's row is found, no definition of the decoder reads the rate in Hz again: a frame and a loss mark of a renamed state give what they give
-- of the state, renamed, as long as both names find the same row but for the name.
use Prim.Native.Nat.{ℕ}
use mathlib.Core.Path.{◌≡◌, refl, ap, ◌∙◌}
use mathlib.Core.Bool.{Bool, true, false}
use mathlib.Core.List.{List}
use lib.Dec.{leb, eqb}
use lib.Ieee.{Float}
use lib.ListN.{length}
use Rattle.std.proofs.Common.{Option, Some, None, Result, Ok, Err}
use Rattle.floats.specs.Single.{all_in_range}
use Rattle.rates.specs.Configs.{config_of}
use Rattle.rates.specs.declared.answer.Refusal.TheVariants.{CoefficientCount, CoefficientNotFinite, SampleCount, TooManyBits, SampleOutOfRange, UnfitState}
use Rattle.rates.specs.declared.table.Rate.{Rate}
use Rattle.rates.specs.declared.config.Lc3Config.{Lc3Config}
use Rattle.rates.proofs.Renaming.{row_as, config_as, configured_as, test_as}
use Rattle.rates.specs.declared.answer.Refusal.{Refusal}
use Rattle.lag.specs.Lag.{unscaled_of, scaled_to}
use Rattle.lag.specs.declared.pitch.PitchRecord.{PitchRecord}
use Rattle.lag.specs.declared.pitch.PitchRecord.TheVariants.{Absent, Present}
use Rattle.lag.specs.declared.rescale.Lag.{Lag}
use Rattle.judging.specs.Pitch.{lag_where, lag_for}
use Rattle.control.specs.State.{lag_fits}
use Rattle.judging.specs.Judge.{unless, set_counts, set_finite, plan_of, lag_judged, judged_side, ranged, judged}
use Rattle.judging.specs.declared.plan.Plan.{Plan}
use Rattle.control.specs.Next.{next_marks}
use Rattle.on_ring.specs.Registers.{block_fits, ring_fits, fit_as}
use Rattle.decoder.specs.State.{fit_decoder}
use Rattle.decoder.specs.Frame.{framed_with, framed, accepted, lost_with, lost_from}
use Rattle.decoder.specs.declared.state.Decoder.{Decoder}
use Rattle.decoder.specs.declared.frame.Framed.{Framed}
use Rattle.rings.specs.Samples.{filtered}
use Rattle.settling_laws.specs.Calls.{Given, framed_by}
use Rattle.settling_laws.specs.Rates.{renamed}

-- what a call gives back, with the state renamed
abbrev pub framed_as_lem : ℕ → Framed → Framed
framed_as_lem hz f = record { answer = f.answer; settled = f.settled; decoder = renamed hz f.decoder }

module _ (hz : ℕ) where
  lag_fits_as : (fs : Rate) (active : Bool) (lag : Lag) → lag_fits (row_as hz fs) active lag ≡ lag_fits fs active lag
  unfolding lag_fits
  lag_fits_as fs true lag = refl
  lag_fits_as fs false lag = refl

  lag_for_as : (fs : Rate) (pitch : PitchRecord) → lag_for (row_as hz fs) pitch ≡ lag_for fs pitch
  lag_for_as fs Absent = refl
  lag_for_as fs (Present p) = go (unscaled_of p.index)
    where
      go : (u : Option ℕ) → lag_where p.active (scaled_to (row_as hz fs) u) ≡ lag_where p.active (scaled_to fs u)
      go (Some q) = refl
      go None = refl

  -- fitness, where the two names find the same but for the name
  fit_as_lem : (d : Decoder) → config_of hz d.registers.marks.duration ≡ configured_as hz (config_of d.registers.marks.rate d.registers.marks.duration) →
      fit_decoder (renamed hz d) ≡ configured_as hz (fit_decoder d)
  unfolding block_fits
  fit_as_lem d same = ap (λ (k : Result Lc3Config Refusal). fit_as (renamed hz d).registers k) same ∙ go (config_of d.registers.marks.rate d.registers.marks.duration)
    where
      go : (k : Result Lc3Config Refusal) → fit_as (renamed hz d).registers (configured_as hz k) ≡ configured_as hz (fit_as d.registers k)
      go (Err refusal) = refl
      go (Ok c) =
          rw (lag_fits_as c.fs d.registers.marks.ltpf_active_prev d.registers.marks.lag) (test_as hz c (ring_fits c d.registers) UnfitState)

-- a frame
module _ (hz : ℕ) (d : Decoder) (f : Given) where
  -- what a verdict on the state leads to, and one on the renamed state
  abbrev led : Result Plan Refusal → Framed × List Float
  led v = framed_with d f.numerators f.denominators f.samples v

  abbrev led_as : Result Plan Refusal → Framed × List Float
  led_as v = framed_with (renamed hz d) f.numerators f.denominators f.samples v

  abbrev Same : Result Plan Refusal → Result Plan Refusal → Type 0
  Same v w = led_as v ≡ (framed_as_lem hz (led w).0, (led w).1)

  tested : (b : Bool) (refusal : Refusal) (v w : Result Plan Refusal) → Same v w → Same (unless b refusal v) (unless b refusal w)
  tested true refusal v w e = e
  tested false refusal v w e = refl

  accepted_as_lem : (c : Lc3Config) (lag : Lag) →
      Same (Ok (plan_of (renamed hz d).registers.marks (config_as hz c) f.side lag)) (Ok (plan_of d.registers.marks c f.side lag))
  unfolding accepted filtered next_marks
  accepted_as_lem c lag = refl

  side_as : (c : Lc3Config) → Same (ranged (all_in_range f.samples) (judged_side (renamed hz d).registers.marks (config_as hz c) f.side))
      (ranged (all_in_range f.samples) (judged_side d.registers.marks c f.side))
  unfolding judged_side
  side_as c = rw (lag_for_as hz c.fs f.side.pitch) (go (leb f.side.nbits 3200) (lag_for c.fs f.side.pitch))
    where
      go : (b : Bool) (l : Option Lag) →
          Same (ranged (all_in_range f.samples) (unless b TooManyBits (lag_judged (renamed hz d).registers.marks (config_as hz c) f.side l)))
          (ranged (all_in_range f.samples) (unless b TooManyBits (lag_judged d.registers.marks c f.side l)))
      go false l = refl
      go true None = refl
      go true (Some lag) = tested (all_in_range f.samples) SampleOutOfRange _ _ (accepted_as_lem c lag)

  judged_as : (k : Result Lc3Config Refusal) → Same (judged (renamed hz d).registers.marks (configured_as hz k) f.numerators f.denominators f.side f.samples)
      (judged d.registers.marks k f.numerators f.denominators f.side f.samples)
  unfolding judged
  judged_as (Err refusal) = refl
  judged_as (Ok c) =
      tested (set_counts c.fs.l_den f.numerators f.denominators) CoefficientCount _ _
      (tested (set_finite f.numerators f.denominators) CoefficientNotFinite _ _
      (tested (eqb (length f.samples) c.nf) SampleCount _ _ (side_as c)))

-- what a frame and a loss mark of the renamed state give
module _ (hz : ℕ) (d : Decoder) (same : config_of hz d.registers.marks.duration ≡ configured_as hz (config_of d.registers.marks.rate d.registers.marks.duration)) where
  pub framed_renamed : (f : Given) → framed_by (renamed hz d) f ≡ (framed_as_lem hz (framed_by d f).0, (framed_by d f).1)
  unfolding framed
  framed_renamed f = rw (fit_as_lem hz d same) (judged_as hz d f (fit_decoder d))

  pub lost_renamed : lost_from (renamed hz d) ≡ framed_as_lem hz (lost_from d)
  unfolding lost_from
  lost_renamed = rw (fit_as_lem hz d same) (go (fit_decoder d))
    where
      go : (k : Result Lc3Config Refusal) → lost_with (renamed hz d) (configured_as hz k) ≡ framed_as_lem hz (lost_with d k)
      go (Err refusal) = refl
      go (Ok c) = refl
