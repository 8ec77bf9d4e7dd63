-- 44100 AS 48000. A decoder that is started at 44100 and one that is started at 48000, with the same duration, known or not, answer the start alike. From
-- then on the same frames and loss marks give both the same answers, settled reports and sample bits, and leave them in the same state but for the
-- rate that it names.
use Prim.Native.Nat.{ℕ}
use mathlib.Core.Path.{◌≡◌, refl, sym, ap, ◌∙◌, subst}
use mathlib.Core.Bool.{true}
use mathlib.Core.List.{List, []}
use lib.Ieee.{Float}
use Rattle.std.proofs.Common.{Option, Some, None, Result, Ok, Err}
use Rattle.call_laws.proofs.Renamed.{Alike, all_renamed}
use Rattle.rates.specs.Table.{find, row_of}
use Rattle.rates.specs.Durations.{duration_of}
use Rattle.rates.specs.Configs.{configured}
use Rattle.rates.proofs.Renaming.{Like48000, like_44100, like_48000}
use Rattle.rates.specs.declared.answer.Refusal.{Refusal}
use Rattle.rates.specs.declared.config.Lc3Config.{Lc3Config}
use Rattle.rates.specs.declared.duration.FrameDuration.{FrameDuration}
use Rattle.control.specs.State.{cleared_marks}
use Rattle.judging.specs.Judge.{judged}
use Rattle.judging.specs.declared.plan.Plan.{Plan}
use Rattle.control.specs.Next.{next_marks}
use Rattle.decoder.specs.State.{cleared, started_with, started, fit_decoder}
use Rattle.decoder.specs.Frame.{accepted, framed_with, framed, lost_with, lost_from}
use Rattle.decoder.specs.declared.state.Decoder.{Decoder}
use Rattle.decoder.specs.declared.state.Started.{Started}
use Rattle.decoder.specs.declared.frame.Framed.{Framed}
use Rattle.settling_laws.specs.Calls.{Given, Call, start, frame, loss, after, after_all, from_start, reply_of, replies, frames, decoder_with}
use Rattle.settling_laws.specs.Rates.{renamed, is_later, no_start}
use Rattle.settling_laws.proofs.Renaming.{framed_renamed, lost_renamed}

-- a frame and a loss mark keep the rate
frame_keeps_rate : (d : Decoder) (f : Given) → (after d (frame f)).registers.marks.rate ≡ d.registers.marks.rate
unfolding framed accepted next_marks
frame_keeps_rate d f = go (judged d.registers.marks (fit_decoder d) f.numerators f.denominators f.side f.samples)
  where
    go : (v : Result Plan Refusal) → (framed_with d f.numerators f.denominators f.samples v).0.decoder.registers.marks.rate ≡ d.registers.marks.rate
    go (Err refusal) = refl
    go (Ok plan) = refl

loss_keeps_rate : (d : Decoder) → (after d loss).registers.marks.rate ≡ d.registers.marks.rate
unfolding lost_from
loss_keeps_rate d = go (fit_decoder d)
  where
    go : (k : Result Lc3Config Refusal) → (lost_with d k).decoder.registers.marks.rate ≡ d.registers.marks.rate
    go (Err refusal) = refl
    go (Ok c) = refl

-- a state whose rate is like 48000, and the same state named so: a call
abbrev Like : Decoder → Type 0
Like d = Like48000 d.registers.marks.rate

one : (d : Decoder) (c : Call) → is_later c ≡ true → Like d → Alike (decoder_with frames) (renamed 48000) Like d c
one d (start rate duration) q like = cc
one d (frame f) q like =
    let same = framed_renamed 48000 d (like d.registers.marks.duration) f in
    record {
      holds = subst Like48000 (sym (frame_keeps_rate d f)) like;
      state = ap (λ (r : Framed × List Float). r.0.decoder) same;
      given_back = ap reply_of same;
    }
one d loss q like =
    let same = lost_renamed 48000 d (like d.registers.marks.duration) in
    record {
      holds = subst Like48000 (sym (loss_keeps_rate d)) like;
      state = ap (λ (r : Framed). r.decoder) same;
      given_back = ap (λ (r : Framed). reply_of (r, [])) same;
    }

-- both starts; a refused one gives the same state, of 48000 Hz, under either name
begun : (duration : ℕ) → ((started 48000 duration).answer ≡ (started 44100 duration).answer) ×
    ((started 48000 duration).decoder ≡ renamed 48000 (started 44100 duration).decoder) × Like48000 (started 44100 duration).decoder.registers.marks.rate
unfolding find cleared cleared_marks
begun duration = go (duration_of duration)
  where
    at : ℕ → Option FrameDuration → Started
    at rate t = started_with rate duration (configured (row_of rate) t)

    go : (t : Option FrameDuration) → ((at 48000 t).answer ≡ (at 44100 t).answer) ×
        ((at 48000 t).decoder ≡ renamed 48000 (at 44100 t).decoder) × Like48000 (at 44100 t).decoder.registers.marks.rate
    go None = (refl, refl, like_48000)
    go (Some t) = (refl, refl, like_44100)

pub record As48000 (duration : ℕ) (calls : List Call) : Type 0 where
  pub answer : (started 48000 duration).answer ≡ (started 44100 duration).answer
  pub given_back : replies (started 48000 duration).decoder calls ≡ replies (started 44100 duration).decoder calls
  pub state : from_start 48000 duration calls ≡ renamed 48000 (from_start 44100 duration calls)

pub as_48000 : (duration : ℕ) (calls : List Call) → no_start calls ≡ true → As48000 duration calls
as_48000 duration calls q =
    let b = begun duration in
    let same = all_renamed (decoder_with frames) (renamed 48000) Like is_later one (started 44100 duration).decoder b.2 calls q in
    record {
      answer = b.0;
      given_back = ap (λ (d : Decoder). replies d calls) b.1 ∙ same.given_back;
      state = ap (λ (d : Decoder). after_all d calls) b.1 ∙ same.state;
    }
