-- 44100 AS 48000. `start_as_48000`: A start at 44100 and one at 48000, with the same duration, known or not, give the same answer and the same state but for
-- the rate that it names. `frame_as_48000`: In any state whose rate is like 48000, and in the same that names 48000, a frame gives the same answer, record and
-- bits, and leaves the same state but for the name. `as_48000`: So after both starts the same frames, one after the other, give both encoders the same.
use Rattle.rates.specs.declared.answer.Refusal.{Refusal}
use Rattle.rates.specs.declared.config.Lc3Config.{Lc3Config}
use Rattle.rates.specs.declared.duration.FrameDuration.{FrameDuration}
use Rattle.std.proofs.Common.{Option, Some, None, Result, Ok, Err}
use Prim.Native.Nat.{ℕ}
use mathlib.Core.Path.{◌≡◌, refl, sym, ap, ◌∙◌, subst}
use mathlib.Core.Bool.{Bool, true, false, cond, ◌&&◌, true≢false}
use mathlib.Core.List.{List}
use lib.Dec.{leb, eqb}
use lib.IntN.{ℤ}
use lib.Ieee.{Float}
use lib.ListN.{length}
use Rattle.call_laws.proofs.Renamed.{Alike, all_renamed}
use Rattle.rates.specs.Table.{find, row_of}
use Rattle.rates.specs.Durations.{duration_of}
use Rattle.rates.specs.Configs.{configured, config_of}
use Rattle.rates.specs.declared.answer.Refusal.TheVariants.{CoefficientCount, CoefficientNotFinite, SampleCount, TooManyBits}
use Rattle.rates.proofs.Renaming.{Like48000, config_as, configured_as, test_as, like_44100, like_48000}
use Rattle.found.specs.Found.{found_in}
use Rattle.encoder_refusals.specs.Refusals.{fit_by, counted, finite_set, judged_set, judged_count, judged_bits}
use Rattle.encoder.specs.State.{started_with, started, fit_config}
use Rattle.encoder.specs.Judge.{judged}
use Rattle.encoder.specs.Frame.{next_state, encoded, framed_by, framed}
use Rattle.encoder.specs.Calls.{Given, Call, start, frame, framed_with, to_frame, encoder, after_all, replies, is_frame, no_start}
use Rattle.encoder.specs.Rates.{renamed, renamed_frame}
use Rattle.encoder.specs.declared.frame.Framed.{Framed}
use Rattle.encoder.specs.declared.state.Encoder.{Encoder}
use Rattle.encoder.specs.declared.state.Started.{Started}

-- the checks of a frame, one by one
fit_as : (k : Result Lc3Config Refusal) (b : Bool) → fit_by (configured_as 48000 k) b ≡ configured_as 48000 (fit_by k b)
fit_as (Err a) b = refl
fit_as (Ok c) true = refl
fit_as (Ok c) false = refl

set_as : (k : Result Lc3Config Refusal) (r n s : List Float) → judged_set (configured_as 48000 k) r n s ≡ configured_as 48000 (judged_set k r n s)
set_as (Err a) r n s = refl
set_as (Ok c) r n s = go (counted r n s)
  where
    go : (b : Bool) →
        cond b (cond (finite_set r n s) (Ok (config_as 48000 c)) (Err CoefficientNotFinite)) (Err CoefficientCount) ≡
        configured_as 48000 (cond b (cond (finite_set r n s) (Ok c) (Err CoefficientNotFinite)) (Err CoefficientCount))
    go true = test_as 48000 c (finite_set r n s) CoefficientNotFinite
    go false = refl

count_as : (k : Result Lc3Config Refusal) (n : ℕ) → judged_count (configured_as 48000 k) n ≡ configured_as 48000 (judged_count k n)
count_as (Err a) n = refl
count_as (Ok c) n = test_as 48000 c (eqb n c.nf) SampleCount

bits_as : (k : Result Lc3Config Refusal) (nbits : ℕ) → judged_bits (configured_as 48000 k) nbits ≡ configured_as 48000 (judged_bits k nbits)
bits_as (Err a) nbits = refl
bits_as (Ok c) nbits = test_as 48000 c (leb nbits 3200) TooManyBits

module _ (e : Encoder) (like : Like48000 e.rate) (r n s : List Float) (frame : List ℤ) (nbits : ℕ) (near : Bool) where
  judged_as : judged (renamed 48000 e) r n s frame nbits ≡ configured_as 48000 (judged e r n s frame nbits)
  unfolding judged
  judged_as =
      let lag = leb 17 e.t_prev && leb e.t_prev 114 in
      rw (
        like e.duration,
        fit_as (config_of e.rate e.duration) lag,
        set_as (fit_config e) r n s,
        count_as (judged_set (fit_config e) r n s) (length frame),
      )
      (bits_as (judged_count (judged_set (fit_config e) r n s) (length frame)) nbits)

  -- a frame, done or refused
  pub frame_as_48000 : framed (renamed 48000 e) r n s frame nbits near ≡ renamed_frame 48000 (framed e r n s frame nbits near)
  unfolding encoded found_in next_state
  frame_as_48000 = rw judged_as (go (judged e r n s frame nbits))
    where
      go : (k : Result Lc3Config Refusal) →
          framed_by (configured_as 48000 k) (renamed 48000 e) r n s frame nbits near ≡ renamed_frame 48000 (framed_by k e r n s frame nbits near)
      go (Err a) = refl
      go (Ok c) = refl

-- a start; where it is refused, the state is that of 48000 Hz under either name
pub start_as_48000 : (duration : ℕ) → ((started 48000 duration).answer ≡ (started 44100 duration).answer) ×
    ((started 48000 duration).encoder ≡ renamed 48000 (started 44100 duration).encoder) × Like48000 (started 44100 duration).encoder.rate
unfolding find
start_as_48000 duration = go (duration_of duration)
  where
    at : ℕ → Option FrameDuration → Started
    at rate t = started_with (configured (row_of rate) t) rate duration

    go : (t : Option FrameDuration) → ((at 48000 t).answer ≡ (at 44100 t).answer) ×
        ((at 48000 t).encoder ≡ renamed 48000 (at 44100 t).encoder) × Like48000 (at 44100 t).encoder.rate
    go None = (refl, refl, like_48000)
    go (Some t) = (refl, refl, like_44100)

-- calls one after the other
abbrev Like : Encoder → Type 0
Like e = Like48000 e.rate

keeps_rate : (e : Encoder) (f : Given) → (framed_with e f).encoder.rate ≡ e.rate
unfolding encoded next_state
keeps_rate e f = go (judged e f.resampling f.correlation f.signal f.samples f.nbits)
  where
    go : (k : Result Lc3Config Refusal) → (framed_by k e f.resampling f.correlation f.signal f.samples f.nbits f.near).encoder.rate ≡ e.rate
    go (Err a) = refl
    go (Ok c) = refl

one : (e : Encoder) (c : Call) → is_frame c ≡ true → Like e → Alike encoder (renamed 48000) Like e c
one e (start rate duration) q like = absurd (true≢false (sym q))
one e (frame f) q like =
    let same = frame_as_48000 e like f.resampling f.correlation f.signal f.samples f.nbits f.near in
    record {
      holds = subst Like48000 (sym (keeps_rate e f)) like;
      state = ap (λ (r : Framed). r.encoder) same;
      given_back = ap (λ (r : Framed). to_frame r.answer r.pitch r.nbits_ltpf) same;
    }

pub record As48000 (duration : ℕ) (calls : List Call) : Type 0 where
  pub answer : (started 48000 duration).answer ≡ (started 44100 duration).answer
  pub given_back : replies (started 48000 duration).encoder calls ≡ replies (started 44100 duration).encoder calls
  pub state : after_all (started 48000 duration).encoder calls ≡ renamed 48000 (after_all (started 44100 duration).encoder calls)

pub as_48000 : (duration : ℕ) (calls : List Call) → no_start calls ≡ true → As48000 duration calls
as_48000 duration calls q =
    let b = start_as_48000 duration in
    let same = all_renamed encoder (renamed 48000) Like is_frame one (started 44100 duration).encoder b.2 calls q in
    record {
      answer = b.0;
      given_back = ap (λ (e : Encoder). replies e calls) b.1 ∙ same.given_back;
      state = ap (λ (e : Encoder). after_all e calls) b.1 ∙ same.state;
    }
