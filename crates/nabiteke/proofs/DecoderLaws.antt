-- THE DECODER FROM C. `calls_kept`, `calls_seen`: whatever bytes the arrays hold, calls from C, one after the other, leave in them the state that
-- the same calls of the decoder give, and C sees what those calls reply.
-- `zero_frame`, `zero_lost`: numbers of zero bytes are answered with 9, and nothing changes.
use Rattle.rates.proofs.Refusals.{never_done}
use Rattle.rates.specs.declared.answer.Refusal.{Refusal}
use Rattle.rates.specs.declared.config.Lc3Config.{Lc3Config}
use Rattle.std.proofs.Common.{Result, Ok, Err}
use mathlib.Core.Path.{◌≡◌, refl}
use mathlib.Core.List.{List, [], map}
use borrow.Author.Tests.{ne_eqb}
use lib.Ieee.{Float}
use lib.ListN.{replicate}
use Rattle.call_laws.proofs.Kept.{all_kept, each_shown}
use Rattle.rates.specs.Answers.{refusal_number, number_of}
use Rattle.rates.specs.Table.{find}
use Rattle.judging.specs.Judge.{judged}
use Rattle.decoder.specs.State.{started, fit_decoder}
use Rattle.decoder.specs.Frame.{framed, lost_with, lost_from}
use Rattle.decoder.specs.declared.state.Decoder.{Decoder}
use Rattle.decoder.specs.declared.frame.Framed.{Framed}
use Rattle.settling_laws.specs.Calls.{Given, Call, start, frame, loss, after, after_all, reply_of, reply, replies, frames, decoder_with}
use Rattle.c_arrays.specs.Words.{as_flag, where_done}
use Rattle.c_arrays.specs.Registers.{read_registers, numbers_by}
use Rattle.c_arrays.proofs.Flags.{flag_back}
use Rattle.c_arrays.proofs.Numbers.{registers_back}
use Rattle.nabiteke.specs.DecoderArrays.{DecoderArrays, arrays, read_decoder, written_decoder}
use Rattle.nabiteke.specs.DecoderCalls.{start_call, frame_call, lost_call, settled_call, handed_numbers, arrays_after, seen, shown, in_arrays, arrays_after_all, seen_all}
use Rattle.nabiteke.proofs.DecoderFrames.{Outcome, refusal, success, outcome}

-- a state that was written reads back
pub read_written : (d : Decoder) → read_decoder (written_decoder d) ≡ d
read_written d = rw (registers_back d.registers)

-- the state in the arrays after an outcome, and the settled report
pub outcome_kept : (a : DecoderArrays) {samples : List Float} {r : Framed × List Float} → Outcome (read_decoder a) samples r →
    read_decoder (where_done r.0.answer (written_decoder r.0.decoder) a) ≡ r.0.decoder
outcome_kept a (refusal b) = rw (ne_eqb (refusal_number b) 0 (never_done b))
outcome_kept a (success next out w) = read_written next

pub outcome_settled : (a : DecoderArrays) {samples : List Float} {r : Framed × List Float} → Outcome (read_decoder a) samples r →
    settled_call (where_done r.0.answer (written_decoder r.0.decoder) a) ≡ as_flag r.0.settled
unfolding settled_call read_registers numbers_by
outcome_settled a (refusal b) = rw (ne_eqb (refusal_number b) 0 (never_done b))
outcome_settled a (success next out w) = rw (flag_back next.registers.marks.settled)

-- and after a call
pub call_kept : (a : DecoderArrays) (c : Call) → read_decoder (arrays_after a c) ≡ after (read_decoder a) c
unfolding lost_from start_call frame_call lost_call read_registers numbers_by
call_kept a (start rate duration) = read_written (started rate duration).decoder
call_kept a (frame f) = outcome_kept a (outcome (read_decoder a) f)
call_kept a loss = go (fit_decoder (read_decoder a)) refl
  where
    go : (k : Result Lc3Config Refusal) → fit_decoder (read_decoder a) ≡ k → read_decoder (handed_numbers a (lost_with (read_decoder a) k)).1 ≡ (lost_with (read_decoder a) k).decoder
    go (Err b) e = rw (ne_eqb (refusal_number b) 0 (never_done b))
    go (Ok c) e = rw (flag_back (read_decoder a).registers.marks.ltpf_active_prev)

-- and what C sees of it
pub call_seen : (a : DecoderArrays) (c : Call) → seen a c ≡ shown (reply (read_decoder a) c)
unfolding lost_from start_call frame_call lost_call settled_call read_registers numbers_by
call_seen a (start rate duration) = rw (flag_back (started rate duration).decoder.registers.marks.settled)
call_seen a (frame f) = rw (outcome_settled a (outcome (read_decoder a) f))
call_seen a loss = go (fit_decoder (read_decoder a)) refl
  where
    go : (k : Result Lc3Config Refusal) → fit_decoder (read_decoder a) ≡ k →
        record {
          answer = (handed_numbers a (lost_with (read_decoder a) k)).0;
          settled = settled_call (handed_numbers a (lost_with (read_decoder a) k)).1;
          samples = [];
        } ≡ shown (reply_of (lost_with (read_decoder a) k, []))
    go (Err b) e = rw (ne_eqb (refusal_number b) 0 (never_done b))
    go (Ok c) e = refl

-- calls one after the other
pub calls_kept : (a : DecoderArrays) (calls : List Call) → read_decoder (arrays_after_all a calls) ≡ after_all (read_decoder a) calls
calls_kept = all_kept in_arrays (decoder_with frames) read_decoder call_kept

pub calls_seen : (a : DecoderArrays) (calls : List Call) → seen_all a calls ≡ map shown (replies (read_decoder a) calls)
calls_seen = each_shown in_arrays (decoder_with frames) read_decoder call_kept shown seen reply call_seen

-- numbers of zero bytes
module _ (kept inputs outputs : List Float) where
  abbrev zeros : DecoderArrays
  zeros = arrays (replicate 8 0) kept inputs outputs

  pub zero_frame : (f : Given) → frame_call zeros f ≡ (9, zeros, f.samples)
  unfolding framed judged find frame_call read_registers
  zero_frame f = refl

  pub zero_lost : lost_call zeros ≡ (9, zeros)
  unfolding lost_from find lost_call read_registers
  zero_lost = refl
