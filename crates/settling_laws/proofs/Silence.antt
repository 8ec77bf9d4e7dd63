-- A frame of 0.0 with a lent set of 0.0, inactive or active with the longest lag: every fit state accepts it.
use Prim.Native.Nat.{ℕ, zero, suc, ◌+◌, ◌-◌, ◌*◌, ◌<◌}
use mathlib.Core.Path.{◌≡◌, refl, ◌∙◌, ap}
use mathlib.Core.Bool.{Bool, true, false, true≢false}
use mathlib.Core.List.{List, ◌++◌}
use native.Mathlib.Omega.{arith}
use borrow.Author.Tests.{eq-eqb}
use lib.Ieee.{Float, nan, neg, round, of_int, le, lt, eq}
use lib.ListN.{length, replicate, length-replicate, get_or-append}
use lib.Seq.{get_or-drop}
use Rattle.std.proofs.Common.{Some}
use Rattle.floats.specs.Single.{0·0, at, all_finite, in_range, all_in_range}
use Rattle.rates.specs.declared.table.Rate.{Rate}
use Rattle.rates.specs.declared.config.Lc3Config.{Lc3Config}
use Rattle.lag.specs.Lag.{quarters, lag_of}
use Rattle.lag.specs.Sent.{sent_of}
use Rattle.lag.specs.Gain.{gain_of, bits_of}
use Rattle.lag.specs.declared.pitch.PitchRecord.{PitchRecord}
use Rattle.lag.specs.declared.pitch.PitchRecord.TheVariants.{Absent, Present}
use Rattle.lag.specs.declared.rescale.Lag.{Lag}
use Rattle.coefficients.specs.Coefficients.{new_filter, Filter}
use Rattle.filter.specs.Fade.{faded, grow}
use Rattle.filter.specs.Transition.{transition_of, outputs, case_activated}
use Rattle.filter.specs.declared.fade.Direction.TheVariants.{In}
use Rattle.filter.proofs.Growing.{length_grow}
use Rattle.control.specs.State.{no_lag, lag_fits}
use Rattle.judging.specs.Pitch.{lag_for}
use Rattle.judging.specs.Judge.{plan_of, judged_side, judged}
use Rattle.judging.proofs.Lags.{lag_for_fits}
use Rattle.rings.specs.Samples.{filtered}
use Rattle.decoder.specs.Frame.{done, accepted, framed}
use Rattle.decoder.specs.declared.state.Decoder.{Decoder}
use Rattle.decoder.specs.declared.frame.Framed.{Framed}
use Rattle.settling_laws.specs.Calls.{Given, frame, framed_by, after, reply, quiet, event, FitState}
use Rattle.settling_laws.proofs.Held.{held, past_x, past_y}
use Rattle.settling_laws.proofs.Admitted.{Admitted, admit, admit_fit, past_y_next}
use Rattle.settling_laws.proofs.Hearing.{quieted, quiet_frame, no_lag_fits, same_quieted}
use Rattle.settling_laws.proofs.Nans.{at_grown, at_first}

finite_zeros : (n : ℕ) → all_finite (replicate n 0·0) ≡ true
finite_zeros zero = refl
finite_zeros (suc n) = finite_zeros n

zero_in_range : in_range 0·0 ≡ true
unfolding in_range le lt eq neg of_int round
zero_in_range = refl

pub range_zeros : (n : ℕ) → all_in_range (replicate n 0·0) ≡ true
range_zeros zero = refl
range_zeros (suc n) = rw zero_in_range (range_zeros n)

-- samples and lent rows of 0.0
abbrev pub silent : Lc3Config → List Float
silent c = replicate c.nf 0·0

pub length_silent : (c : Lc3Config) → length (silent c) ≡ c.nf
length_silent c = length-replicate c.nf 0·0

abbrev pub lent_nums : Lc3Config → List Float
lent_nums c = replicate (4 * (c.fs.l_den - 1)) 0·0

abbrev pub lent_dens : Lc3Config → List Float
lent_dens c = replicate (4 * (c.fs.l_den + 1)) 0·0

-- a frame with them
abbrev pub silence : Lc3Config → PitchRecord → Given
silence c pitch = record {
  numerators = lent_nums c;
  denominators = lent_dens c;
  side = record { pitch = pitch; nbits = 0 };
  samples = silent c;
}

-- every fit state accepts it
silence_done : (c : Lc3Config) (d : Decoder) → FitState c d → (pitch : PitchRecord) (lag : Lag) → lag_for c.fs pitch ≡ Some lag →
    framed_by d (silence c pitch) ≡
    done (accepted d (plan_of d.registers.marks c (silence c pitch).side lag) (silence c pitch).numerators (silence c pitch).denominators (silence c pitch).samples)
unfolding framed judged judged_side
silence_done c d s pitch lag l =
    rw (
      s.found,
      eq-eqb (length (lent_nums c) + 4) (4 * c.fs.l_den) (omega (arith, (held c d s).sizes.least, length-replicate (4 * (c.fs.l_den - 1)) 0·0)),
      eq-eqb (length (lent_dens c)) (4 * (c.fs.l_den + 1)) (length-replicate (4 * (c.fs.l_den + 1)) 0·0),
      finite_zeros (4 * (c.fs.l_den - 1)),
      finite_zeros (4 * (c.fs.l_den + 1)),
      eq-eqb (length (silent c)) c.nf (length_silent c),
      l,
      range_zeros c.nf,
    )

-- the longest lag, and a record that asks for it
abbrev pub longest : Rate → Lag
longest fs = lag_of fs.r (quarters 511)

abbrev pub asked : PitchRecord
asked = Present (record { index = 511; active = true })

-- what of the frame matters after judging
abbrev pub silent_frame : (c : Lc3Config) (active : Bool) (lag : Lag) → lag_fits c.fs active lag ≡ true → (active ≡ false → lag ≡ no_lag) → Admitted c
silent_frame c active lag fits none = record {
  active = active;
  gain = gain_of c.fs.fs_ind (bits_of c.n_ms 0);
  lag = lag;
  numerators = lent_nums c;
  denominators = lent_dens c;
  samples = silent c;
  lag_fits_lem = fits;
  lagless = none;
  count = length_silent c;
}

pub longest_fits : (fs : Rate) → lag_fits fs true (longest fs) ≡ true
longest_fits fs = lag_for_fits fs (sent_of asked) (longest fs) refl

abbrev pub loud : (c : Lc3Config) → Admitted c
loud c = silent_frame c true (longest c.fs) (longest_fits c.fs) (λ e. absurd (true≢false e))

-- its filter
abbrev pub loud_filter : Lc3Config → Filter
loud_filter c = new_filter c.fs.l_den true (gain_of c.fs.fs_ind (bits_of c.n_ms 0)) (longest c.fs)
    (lent_nums c) (lent_dens c)

-- a silent inactive frame, given to a fit state
module _ (c : Lc3Config) (d : Decoder) (s : FitState c d) where
  pub after_silence : after d (frame (silence c Absent)) ≡ (quieted c d (silent c)).0
  after_silence = ap (λ (r : Framed × List Float). r.0.decoder) (silence_done c d s Absent no_lag refl)
      ∙ ap (λ (r : Decoder × List Float). r.0) (same_quieted c d (silent_frame c false no_lag (no_lag_fits c.fs) (λ e. refl)) refl)

  pub silence_quiet : event d (frame (silence c Absent)) ≡ quiet (silent c)
  silence_quiet = rw (silence_done c d s Absent no_lag refl)

  -- and an active one
  pub reply_loud : (reply d (frame (silence c asked))).samples ≡ (admit d (loud c)).1
  reply_loud = ap (λ (r : Framed × List Float). r.1) (silence_done c d s asked (longest c.fs) refl)

  pub silent_fit : FitState c (quieted c d (silent c)).0
  silent_fit = admit_fit s (quiet_frame c (silent c) (length_silent c))

  -- the past moves along
  pub older_output : (i : ℕ) → c.nf + i < c.history → at (past_y c (quieted c d (silent c)).0) i ≡ at (past_y c d) (c.nf + i)
  older_output i h =
      rw (past_y_next s (quiet_frame c (silent c) (length_silent c)))
      (get_or-drop c.nf (past_y c d ++ (quieted c d (silent c)).1) i nan
      ∙ get_or-append (past_y c d) _ nan (c.nf + i) (omega (arith, (held c d s).long_y)))

  -- the first sample of an active frame after an inactive one
  pub first_sample : d.registers.marks.ltpf_active_prev ≡ false →
      at (admit d (loud c)).1 0 ≡ faded In (length (past_y c d)) c.fs.fade (loud_filter c) (past_x c d ++ silent c) (past_y c d)
  unfolding accepted filtered transition_of outputs case_activated
  first_sample p =
      let k = held c d s in
      let z = k.sizes in
      let e : c.history + 0 ≡ length (past_y c d) = omega (arith, k.long_y) in
      rw p (get_or-drop c.history _ 0 nan
      ∙ rw e (at_grown _ (grow (faded In (length (past_y c d)) c.fs.fade (loud_filter c) (past_x c d ++ silent c)) (past_y c d) c.fs.fade) _ (length (past_y c d))
      (omega (arith, length_grow (faded In (length (past_y c d)) c.fs.fade (loud_filter c) (past_x c d ++ silent c)) (past_y c d) c.fs.fade))
      ∙ at_first _ (past_y c d) c.fs.fade (omega arith)))
