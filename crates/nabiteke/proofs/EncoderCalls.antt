-- What the encoder's functions put together is what the definitions of the calls say.
use Rattle.rates.proofs.Refusals.{never_done}
use Rattle.rates.specs.declared.answer.Refusal.{Refusal}
use Rattle.rates.specs.declared.config.Lc3Config.{Lc3Config}
use Rattle.std.proofs.Common.{Result, Ok, Err}
use Prim.Native.Nat.{ℕ, ◌<◌, ◌^◌}
use mathlib.Core.Path.{◌≡◌, ap, ◌∙◌}
use mathlib.Core.Bool.{Bool, true, false, cond}
use mathlib.Core.List.{List}
use native.Mathlib.Omega.{arith}
use borrow.Author.Tests.{ne_eqb}
use lib.Dec.{eqb}
use lib.Ieee.{Float}
use Rattle.rates.specs.Answers.{refusal_number, number_of}
use Rattle.rates.specs.Configs.{config_of}
use Rattle.encoder.specs.State.{started_with, started}
use Rattle.encoder.specs.Frame.{framed}
use Rattle.encoder.specs.declared.state.Encoder.{Encoder}
use Rattle.encoder.specs.declared.state.Started.{Started}
use Rattle.encoder.specs.declared.frame.Framed.{Framed}
use Rattle.c_arrays.specs.Words.{narrowed, where_done}
use Rattle.c_arrays.specs.Pitch.{record_of}
use Rattle.c_encoder.specs.State.{EncoderArrays, arrays, read_encoder, Floats, floats_of, numbers_by, numbers_of, written_encoder}
use Rattle.c_encoder.proofs.Narrow.{written_whole}
use Rattle.encoder.specs.Calls.{Given, framed_with}
use Rattle.nabiteke.specs.EncoderCalls.{start_call, frame_call}
use Rattle.nabiteke.proofs.EncoderFrames.{Outcome, refusal, success, outcome}

-- arrays are given by their numbers and their floats
same_arrays : (b : EncoderArrays) (ns : List ℕ) (m s t u : List Float) → ns ≡ b.numbers →
    ◌≡◌ {A = Floats} (m, s, t, u) (b.memories, b.x_s, b.x_12p8, b.x_6p4) → arrays ns m s t u ≡ b
same_arrays b ns m s t u n k = rw (n, ap (λ (p : Floats). p.0) k, ap (λ (p : Floats). p.1) k, ap (λ (p : Floats). p.2) k, ap (λ (p : Floats). p.3) k)

all_written : (e : Encoder) (ns : List ℕ) (m s t u : List Float) → ns ≡ numbers_of e → (m, s, t, u) ≡ floats_of e →
    arrays ns m s t u ≡ written_encoder e
unfolding written_encoder
all_written e ns m s t u n k = same_arrays (written_encoder e) ns m s t u n k

all_left : (b : Bool) (a : EncoderArrays) (e : Encoder) (ns : List ℕ) (m s t u : List Float) → ns ≡ cond b (numbers_of e) a.numbers →
    ◌≡◌ {A = Floats} (m, s, t, u) (cond b (floats_of e) (a.memories, a.x_s, a.x_12p8, a.x_6p4)) →
    arrays ns m s t u ≡ cond b (written_encoder e) a
all_left true a e ns m s t u n k = all_written e ns m s t u n k
all_left false a e ns m s t u n k = same_arrays a ns m s t u n k

-- the state of a start is written
started_fits : (rate duration : ℕ) → (started rate duration).encoder.t_prev < 2 ^ 32
started_fits rate duration = go (config_of rate duration)
  where
    go : (k : Result Lc3Config Refusal) → (started_with k rate duration).encoder.t_prev < 2 ^ 32
    go (Ok c) = omega arith
    go (Err a) = omega arith

pub start_left : (rate duration : ℕ) (r : Started) → r ≡ started rate duration → (word : ℕ) (ns : List ℕ) (m s t u : List Float) →
    word ≡ number_of r.answer → ns ≡ numbers_by narrowed r.encoder → (m, s, t, u) ≡ floats_of r.encoder →
    (word, arrays ns m s t u) ≡ start_call rate duration
unfolding start_call
start_left rate duration r e word ns m s t u w n k =
    let fits : r.encoder.t_prev < 2 ^ 32 = rw e (started_fits rate duration) in
    rw (w, all_written r.encoder ns m s t u (n ∙ written_whole r.encoder fits) k, e)

module _ (a : EncoderArrays) (f : Given) (e : Encoder) (near : Bool) (r : Framed) (from : e ≡ read_encoder a) (same-near : near ≡ f.near)
    (made : r ≡ framed e f.resampling f.correlation f.signal f.samples f.nbits near) where
  made_by : r ≡ framed_with (read_encoder a) f
  made_by = rw (from, same-near) at made

  -- the numbers of a frame that is done are written as they are
  numbers_left : where_done r.answer (numbers_by narrowed r.encoder) a.numbers ≡ where_done r.answer (numbers_of r.encoder) a.numbers
  numbers_left = go r (rw (← made_by) at (outcome (read_encoder a) f))
    where
      go : (q : Framed) → Outcome (read_encoder a) q →
          where_done q.answer (numbers_by narrowed q.encoder) a.numbers ≡ where_done q.answer (numbers_of q.encoder) a.numbers
      go q (refusal b) = rw (ne_eqb (refusal_number b) 0 (never_done b))
      go q (success _ d l) = rw (written_whole q.encoder (omega arith))

  -- the state of a frame that is done is written; a refused frame leaves the arrays
  pub frame_left : (word : ℕ) (ns : List ℕ) (m s t u : List Float) (rec : List ℕ) → word ≡ number_of r.answer →
      ns ≡ where_done r.answer (numbers_by narrowed r.encoder) a.numbers →
      ◌≡◌ {A = Floats} (m, s, t, u) (where_done r.answer (floats_of r.encoder) (a.memories, a.x_s, a.x_12p8, a.x_6p4)) →
      rec ≡ record_of r.pitch r.nbits_ltpf → (word, arrays ns m s t u, rec) ≡ frame_call a f
  unfolding frame_call
  frame_left word ns m s t u rec w n k l =
      rw (w, all_left (eqb (number_of r.answer) 0) a r.encoder ns m s t u (n ∙ numbers_left) k, l, made_by)
