-- THE ENCODER FROM C. `calls_kept`, `calls_answered`: whatever bytes the arrays hold, calls from C, one after the other, leave in them the state that
-- the same calls of the encoder give, and C gets what those calls give. `recorded`: which answers and records a frame call gives.
-- `zero_frame`: numbers of zero bytes are answered with 9, and nothing changes.
use Rattle.rates.proofs.Refusals.{never_done}
use Rattle.rates.specs.declared.answer.Refusal.{Refusal}
use Rattle.std.proofs.Common.{Result, Ok, Err}
use Prim.Native.Nat.{ℕ}
use mathlib.Core.Path.{◌≡◌, refl}
use mathlib.Core.Bool.{Bool, true, false, cond}
use mathlib.Core.List.{List, [], ◌∷◌, map}
use borrow.Author.Tests.{ne_eqb}
use lib.Ieee.{Float}
use lib.ListN.{replicate}
use Rattle.call_laws.proofs.Kept.{all_kept, each_shown}
use Rattle.rates.specs.Answers.{refusal_number, number_of}
use Rattle.rates.specs.Table.{find}
use Rattle.rates.specs.declared.config.Lc3Config.{Lc3Config}
use Rattle.encoder.specs.Judge.{judged}
use Rattle.encoder.specs.State.{started, fit_config}
use Rattle.found.specs.Found as Found
use Rattle.found.specs.Found.{ready, found_in}
use Rattle.encoder.specs.Frame.{encoded}
use Rattle.encoder.specs.Calls.{Given, Call, start, frame, framed_with, after, reply, encoder, after_all, replies}
use Rattle.found.specs.declared.activation.Activation.{Activation}
use Rattle.found.specs.declared.activation.Memory.{Memory}
use Rattle.search.specs.declared.pitch.Detected.{Detected}
use Rattle.encoder.specs.declared.frame.Framed.{Framed}
use Rattle.encoder.specs.declared.state.Encoder.{Encoder}
use Rattle.encoder.proofs.Frames.{Takes, decoder_takes}
use Rattle.c_arrays.specs.Pitch.{record_of}
use Rattle.c_encoder.specs.State.{EncoderArrays, arrays, read_encoder, written_encoder}
use Rattle.c_arrays.proofs.Flags.{flag_back}
use Rattle.nabiteke.specs.EncoderCalls.{start_call, frame_call, handed, shown, arrays_after, answered, in_arrays, arrays_after_all, answered_all, Recorded, refused, absent, present}
use Rattle.nabiteke.proofs.EncoderFrames.{Outcome, refusal, success, outcome}

-- a state that was written reads back
pub read_written : (e : Encoder) → read_encoder (written_encoder e) ≡ e
unfolding read_encoder written_encoder
read_written e = rw (flag_back e.memory.mem_ltpf_active)

-- the state in the arrays after a call
pub call_kept : (a : EncoderArrays) (c : Call) → read_encoder (arrays_after a c) ≡ after (read_encoder a) c
unfolding start_call frame_call
call_kept a (start rate duration) = read_written (started rate duration).encoder
call_kept a (frame f) = go (framed_with (read_encoder a) f) (outcome (read_encoder a) f)
  where
    go : (r : Framed) → Outcome (read_encoder a) r → read_encoder (handed a r).1 ≡ r.encoder
    go r (refusal b) = rw (ne_eqb (refusal_number b) 0 (never_done b))
    go r (success _ d l) = rw d (read_written r.encoder)

-- calls one after the other
pub calls_kept : (a : EncoderArrays) (calls : List Call) → read_encoder (arrays_after_all a calls) ≡ after_all (read_encoder a) calls
calls_kept = all_kept in_arrays encoder read_encoder call_kept

call_answered : (a : EncoderArrays) (c : Call) → answered a c ≡ shown (reply (read_encoder a) c)
unfolding start_call frame_call
call_answered a (start rate duration) = refl
call_answered a (frame f) = refl

pub calls_answered : (a : EncoderArrays) (calls : List Call) → answered_all a calls ≡ map shown (replies (read_encoder a) calls)
calls_answered = each_shown in_arrays encoder read_encoder call_kept shown answered reply call_answered

-- what is found in a frame, as a record
found_recorded : (c : Lc3Config) (x : List Float) (d : Detected) (m : Memory) (k s : List Float) (nbits : ℕ) (near : Bool) →
    Takes (found_in c x d m k s nbits near).pitch → Recorded 0 (record_of (found_in c x d m k s nbits near).pitch (found_in c x d m k s nbits near).nbits_ltpf)
unfolding found_in
found_recorded c x d m k s nbits near = go (ready d k s) _ _
  where
    go : (b : Bool) (i : ℕ) (v : Activation) → Takes (cond b (Found.present m i v) (Found.absent m)).pitch →
        Recorded 0 (record_of (cond b (Found.present m i v) (Found.absent m)).pitch (cond b (Found.present m i v) (Found.absent m)).nbits_ltpf)
    go true i v t = present i v.active t
    go false i v t = absent

-- which answers and records a frame call gives
pub recorded : (a : EncoderArrays) (f : Given) → Recorded (frame_call a f).0 (frame_call a f).2
unfolding judged encoded frame_call
recorded a f = go (judged (read_encoder a) f.resampling f.correlation f.signal f.samples f.nbits) refl
  where
    go : (k : Result Lc3Config Refusal) → judged (read_encoder a) f.resampling f.correlation f.signal f.samples f.nbits ≡ k → Recorded (frame_call a f).0 (frame_call a f).2
    go (Err b) h = rw h (refused (refusal_number b) (never_done b))
    go (Ok c) h = rw h (found_recorded c _ _ _ _ _ _ _ (rw h at (decoder_takes (read_encoder a) f.resampling f.correlation f.signal f.samples f.nbits f.near)))

-- numbers of zero bytes
pub zero_frame : (memories s m l : List Float) (f : Given) →
    frame_call (arrays (replicate 4 0) memories s m l) f ≡ (9, arrays (replicate 4 0) memories s m l, 0 ∷ 0 ∷ 0 ∷ 0 ∷ [])
unfolding judged find frame_call read_encoder
zero_frame memories s m l f = refl
