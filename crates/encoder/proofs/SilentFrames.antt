-- From a start, silence gives lag 17, absent, 1 bit, at every rate and duration and with every finite set; and so does every silent frame after it.
use Rattle.std.proofs.Common.{Some, Ok}
use Prim.Native.Nat.{ℕ, ◌≤◌}
use mathlib.Core.Path.{◌≡◌, refl}
use mathlib.Core.Bool.{Bool, true}
use mathlib.Core.List.{List}
use native.Mathlib.Omega.{arith}
use borrow.Author.Tests.{eq-eqb, le-leb}
use denote.Floats.{is_true}
use lib.IntN.{pos}
use lib.ListN.{replicate, length-replicate}
use lib.Ieee.{Float, round, of_int}
use Rattle.rates.specs.Table.{row_of}
use Rattle.rates.specs.Configs.{config_of}
use Rattle.rates.specs.declared.table.Rate.{Rate}
use Rattle.rates.specs.declared.config.Lc3Config.{Lc3Config}
use Rattle.rates.proofs.Rows.{at_row}
use Rattle.lag.specs.declared.pitch.PitchRecord.TheVariants.{Absent}
use Rattle.resampling.specs.Resample.{scale}
use Rattle.rates.specs.Lengths.{lengths_of}
use Rattle.encoder.specs.State.{cleared_at}
use Rattle.encoder_refusals.specs.Refusals.{counted, finite_set}
use Rattle.encoder.specs.Judge.{judged}
use Rattle.found.specs.Found.{found_in, ready}
use Rattle.encoder.specs.Frame.{next_state, encoded, framed}
use Rattle.encoder.specs.declared.frame.Framed.{Framed}
use Rattle.encoder.specs.declared.state.Encoder.{Encoder}
use Rattle.encoder.proofs.Judged.{Judged, judged_facts}
use Rattle.rates.proofs.Sizes.{sized}
use Rattle.search.proofs.Silence.{silence}
use Rattle.signals.proofs.Silent.{Silent, silent_zeros, silent_laid}
use Rattle.signals.proofs.SilentSignals.{Resampler, plain, rest, silent_signals}

scale_plain : (hz : ℕ) (row : Rate) → row_of hz ≡ Some row → plain (scale row.p) ≡ true
unfolding round of_int
scale_plain hz row h = is_true _ (at_row (λ (row : Rate). plain (scale row.p)) tt hz row h)

-- a state after silence: 0.0 in its histories and its high-pass
pub record SilentState (e : Encoder) : Type 0 where
  pub input : Silent 60 e.x_s
  pub at_12p8 : Silent 276 e.x_12p8
  pub at_6p4 : Silent 114 e.x_6p4
  pub resting : e.h50 ≡ rest

-- a frame's outcome in silence: absent, 1 bit, lag 17, and a state after silence
pub record Quiet (f : Framed) : Type 0 where
  pub done : f.answer ≡ Ok tt
  pub absent : f.pitch ≡ Absent
  pub one_bit : f.nbits_ltpf ≡ 1
  pub lag_17 : f.encoder.t_prev ≡ 17
  pub state : SilentState f.encoder

module _ (e : Encoder) (r k s : List Float) (nbits : ℕ) (near : Bool) (c : Lc3Config) (quiet : SilentState e) where
  encoded_silence : Judged e c r k s (replicate c.nf (pos 0)) → Quiet (encoded e c r k s (replicate c.nf (pos 0)) nbits near)
  unfolding encoded found_in ready next_state
  encoded_silence a =
      let set : Resampler r c.fs.p =
      record { long = a.set.0; numbers = a.finite; step = a.step; factor = scale_plain e.rate c.fs a.row } in
      let l = lengths_of c.n_ms in
      let size = sized c.n_ms in
      let signals = silent_signals e.x_s e.x_12p8 e.x_6p4 e.h50 c.fs.p c.nf l r quiet.input quiet.at_12p8 quiet.at_6p4 quiet.resting set size a.samples.1 in
      rw (silence _ l.len6p4 (omega arith) signals.at_6p4.still e.t_prev)
      (record {
        done = refl;
        absent = refl;
        one_bit = refl;
        lag_17 = refl;
        state = record {
          input = silent_laid 540 60 _ c.nf 60 signals.input (omega arith);
          at_12p8 = silent_laid 404 276 _ l.len12p8 276 signals.at_12p8 (omega arith);
          at_6p4 = silent_laid 178 114 _ l.len6p4 114 signals.at_6p4 (omega arith);
          resting = signals.resting;
        };
      })

  -- a silent frame after silence is quiet, and leaves silence
  pub silent_frame_lem : judged e r k s (replicate c.nf (pos 0)) nbits ≡ Ok c → Quiet (framed e r k s (replicate c.nf (pos 0)) nbits near)
  silent_frame_lem h = rw h (encoded_silence (judged_facts e r k s _ nbits c h))

-- a start is silent
pub silent_start : (rate duration : ℕ) → SilentState (cleared_at rate duration)
silent_start rate duration = record { input = silent_zeros 60; at_12p8 = silent_zeros 276; at_6p4 = silent_zeros 114; resting = refl }

-- From a start, silence gives lag 17, absent, 1 bit.
pub start_silence : (rate duration : ℕ) (r k s : List Float) (nbits : ℕ) (near : Bool) (c : Lc3Config) →
    config_of rate duration ≡ Ok c → counted r k s ≡ true → finite_set r k s ≡ true → nbits ≤ 3200 →
    Quiet (framed (cleared_at rate duration) r k s (replicate c.nf (pos 0)) nbits near)
unfolding judged
start_silence rate duration r k s nbits near c found lengths numbers bits =
    silent_frame_lem (cleared_at rate duration) r k s nbits near c (silent_start rate duration)
    (rw (found, lengths, numbers, eq-eqb _ _ (length-replicate c.nf (pos 0)), le-leb nbits 3200 bits))
