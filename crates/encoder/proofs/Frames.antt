-- What follows for every frame call: a fit state stays fit, and no index is above 511.
use Rattle.rates.specs.declared.answer.Refusal.{Refusal}
use Rattle.std.proofs.Common.{Result, Ok, Err}
use Prim.Native.Nat.{ℕ, ◌≤◌}
use mathlib.Core.Path.{◌≡◌, refl}
use mathlib.Core.Bool.{Bool, true, false, cond}
use mathlib.Core.List.{List}
use borrow.Author.Tests.{le-leb}
use lib.IntN.{ℤ}
use lib.Ieee.{Float}
use Rattle.rates.specs.declared.config.Lc3Config.{Lc3Config}
use Rattle.lag.specs.Gain.{bits_of, may_activate}
use Rattle.lag.specs.declared.pitch.PitchRecord.{PitchRecord}
use Rattle.lag.specs.declared.pitch.PitchRecord.TheVariants.{Absent, Present}
use Rattle.rates.specs.Lengths.{lengths_of}
use Rattle.signals.specs.Signals.{signals_of}
use Rattle.search.specs.Pitch.{detected}
use Rattle.found.specs.LagParameter.{lag_parameter}
use Rattle.found.specs.Activation.{activation}
use Rattle.encoder.specs.State.{fit_config}
use Rattle.encoder.specs.Judge.{judged}
use Rattle.found.specs.Found.{found_in, present, absent, is_ten_ms, ready}
use Rattle.encoder.specs.Frame.{next_state, encoded, framed, framed_by}
use Rattle.found.specs.declared.activation.Activation.{Activation}
use Rattle.found.specs.declared.activation.Memory.{Memory}
use Rattle.found.specs.declared.lag_parameter.LagParameter.{LagParameter}
use Rattle.search.specs.declared.pitch.Detected.{Detected}
use Rattle.encoder.specs.declared.state.Encoder.{Encoder}
use Rattle.search.proofs.Pitches.{detected_range}
use Rattle.found.proofs.LagParameters.{Sendable, parameter_sendable, index_sound}
use Rattle.encoder.proofs.Judged.{Judged, judged_facts}

-- absent has no index; a present one is one that the decoder takes
abbrev pub Takes : PitchRecord → Type 0
Takes Absent = Unit
Takes (Present p) = p.index ≤ 511

picked_takes : (b : Bool) (m : Memory) (lag : LagParameter) (a : Activation) → Sendable lag →
    Takes (cond b (present m lag.pitch_index a) (absent m)).pitch
picked_takes true m lag a s = (index_sound lag s).0
picked_takes false m lag a s = tt

found_takes : (c : Lc3Config) (x : List Float) (d : Detected) (m : Memory) (k s : List Float) (nbits : ℕ) (near : Bool) →
    (17 ≤ d.t_curr) × (d.t_curr ≤ 114) → Takes (found_in c x d m k s nbits near).pitch
unfolding found_in
found_takes c x d m k s nbits near t =
    let l = lengths_of c.n_ms in
    let lag = lag_parameter x l.start l.len12p8 d.t_curr k in
    let on = may_activate c.fs.fs_ind (bits_of c.n_ms nbits) in
    picked_takes (ready d k s) m lag
    (activation x l.start l.len12p8 lag.pitch_int lag.pitch_fr s m on near (is_ten_ms c.n_ms))
    (parameter_sendable x l.start l.len12p8 d.t_curr k t.0 t.1)

module _ (e : Encoder) (r k s : List Float) (frame : List ℤ) (nbits : ℕ) (near : Bool) where
  -- the lag that is remembered is one of 17 to 114
  remembered_range : (c : Lc3Config) → Judged e c r k s frame →
      (17 ≤ (encoded e c r k s frame nbits near).encoder.t_prev) × ((encoded e c r k s frame nbits near).encoder.t_prev ≤ 114)
  unfolding encoded next_state
  remembered_range c a =
      let l = lengths_of c.n_ms in
      detected_range (signals_of e.x_s e.x_12p8 e.x_6p4 e.h50 c.fs.p l r frame).x_6p4 l.len6p4 e.t_prev a.lag.0 a.lag.1

  -- a frame that is judged leaves a state that is fit, with the same configuration
  pub stays_fit : (c : Lc3Config) → judged e r k s frame nbits ≡ Ok c → fit_config (framed e r k s frame nbits near).encoder ≡ Ok c
  unfolding encoded next_state
  stays_fit c h =
      let a = judged_facts e r k s frame nbits c h in
      let t = remembered_range c a in
      rw (h, a.config, le-leb 17 _ t.0, le-leb _ 114 t.1)

  encoded_takes : (c : Lc3Config) → Judged e c r k s frame → Takes (encoded e c r k s frame nbits near).pitch
  unfolding encoded
  encoded_takes c a =
      let l = lengths_of c.n_ms in
      let signals = signals_of e.x_s e.x_12p8 e.x_6p4 e.h50 c.fs.p l r frame in
      found_takes c signals.x_12p8 (detected signals.x_6p4 l.len6p4 e.t_prev) e.memory k s nbits near
      (detected_range signals.x_6p4 l.len6p4 e.t_prev a.lag.0 a.lag.1)

  -- whatever the call, the decoder takes its record
  pub decoder_takes : Takes (framed e r k s frame nbits near).pitch
  decoder_takes = go (judged e r k s frame nbits) refl
    where
      go : (f : Result Lc3Config Refusal) → judged e r k s frame nbits ≡ f → Takes (framed_by f e r k s frame nbits near).pitch
      go (Err a) h = tt
      go (Ok c) h = encoded_takes c (judged_facts e r k s frame nbits c h)
