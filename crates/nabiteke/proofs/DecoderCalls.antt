-- What the decoder's functions put together is what the definitions of the calls say.
use Rattle.rates.proofs.Refusals.{never_done}
use Rattle.rates.specs.declared.answer.Refusal.{Refusal}
use Rattle.rates.specs.declared.config.Lc3Config.{Lc3Config}
use Rattle.std.proofs.Common.{Result, Ok, Err}
use Prim.Native.Nat.{ℕ}
use mathlib.Core.Path.{◌≡◌, refl, ap}
use mathlib.Core.List.{List, []}
use native.Mathlib.Omega.{arith}
use borrow.Author.Tests.{ne_eqb}
use lib.Ieee.{Float}
use Rattle.rates.specs.Answers.{refusal_number, number_of}
use Rattle.rates.specs.Configs.{config_of}
use Rattle.control.specs.State.{cleared_marks}
use Rattle.control.specs.Next.{unsettled}
use Rattle.judging.specs.declared.plan.SideInfo.{SideInfo}
use Rattle.on_ring.specs.Registers.{fit_ring}
use Rattle.on_ring.specs.declared.registers.Registers.{Registers}
use Rattle.decoder.specs.State.{cleared, started_with, started}
use Rattle.decoder.specs.Frame.{lost_with, lost_from}
use Rattle.decoder.specs.InPlace.{joined, apart, all_apart, framed_in_place, lost_in_place}
use Rattle.decoder.specs.declared.state.Started.{Started}
use Rattle.decoder.specs.declared.frame.Framed.{Framed}
use Rattle.decoder.specs.declared.frame.FramedInPlace.{FramedInPlace}
use Rattle.settling_laws.specs.Calls.{Given, framed_by}
use Rattle.c_arrays.specs.Words.{narrowed, where_done}
use Rattle.c_arrays.specs.Registers.{read_registers, numbers_by, Fits32}
use Rattle.c_arrays.proofs.Numbers.{written_whole}
use Rattle.nabiteke.specs.DecoderArrays.{DecoderArrays, arrays, read_decoder, written_decoder}
use Rattle.nabiteke.specs.DecoderCalls.{frame_call, handed_numbers, lost_call, start_call}
use Rattle.nabiteke.proofs.DecoderFrames.{Outcome, refusal, success, outcome}

-- a start gives registers that are written as they are
started_fits : (rate duration : ℕ) → Fits32 (started rate duration).decoder.registers
unfolding cleared cleared_marks
started_fits rate duration = go (config_of rate duration)
  where
    go : (k : Result Lc3Config Refusal) → Fits32 (started_with rate duration k).decoder.registers
    go (Ok c) = record { block = omega arith; whole = omega arith; quarter = omega arith }
    go (Err a) = record { block = omega arith; whole = omega arith; quarter = omega arith }

pub start_left : (rate duration : ℕ) (s : Started) → s ≡ started rate duration → (word : ℕ) (ns : List ℕ) → word ≡ number_of s.answer →
    ns ≡ numbers_by narrowed s.decoder.registers →
    (word, arrays ns s.decoder.kept s.decoder.x_hat_mem s.decoder.x_hat_ltpf_mem) ≡ start_call rate duration
unfolding start_call
start_left rate duration s e word ns w n = rw (w, n, e, written_whole _ (started_fits rate duration))

-- an outcome that is done is written; a refused one leaves the arrays
module _ (a : DecoderArrays) (st : FramedInPlace) (ks xs ys : List Float) (word : ℕ) (ns : List ℕ) (w : word ≡ number_of st.answer)
    (n : ns ≡ where_done st.answer (numbers_by narrowed st.registers) a.numbers) where
  pub outcome_left : {samples : List Float} {t : Framed × List Float} → Outcome (read_decoder a) samples t →
      st ≡ apart t.0 → ks ≡ t.0.decoder.kept → xs ≡ t.0.decoder.x_hat_mem → ys ≡ t.0.decoder.x_hat_ltpf_mem →
      (word ≡ number_of t.0.answer) × (arrays ns ks xs ys ≡ where_done t.0.answer (written_decoder t.0.decoder) a)
  outcome_left (refusal b) q k x y = rw (w, n, q, k, x, y, ne_eqb (refusal_number b) 0 (never_done b)) (refl, refl)
  outcome_left (success next o f) q k x y = rw (w, n, q, k, x, y, written_whole _ f) (refl, refl)

-- what a frame in place leaves
abbrev Parts : Type 0
Parts = FramedInPlace × List Float × List Float × List Float × List Float

module _ (a : DecoderArrays) (f : Given) (r : Registers) (side : SideInfo) (st : FramedInPlace) (ks xs ys out : List Float)
    (from : r ≡ read_registers a.numbers) (same-side : side ≡ f.side)
    (made : ◌≡◌ {A = Parts} (st, ks, xs, ys, out)
    (framed_in_place r a.kept a.inputs a.outputs f.numerators f.denominators side f.samples)) where
  e : ◌≡◌ {A = Parts} (st, ks, xs, ys, out) (all_apart (framed_by (read_decoder a) f))
  e = rw (from, same-side) at made

  -- the arrays and the samples
  pub frame_left : (word : ℕ) (ns : List ℕ) → word ≡ number_of st.answer →
      ns ≡ where_done st.answer (numbers_by narrowed st.registers) a.numbers → (word, arrays ns ks xs ys, out) ≡ frame_call a f
  unfolding frame_call
  frame_left word ns w n =
      let left = outcome_left a st ks xs ys word ns w n (outcome (read_decoder a) f)
      (ap (λ (p : Parts). p.0) e) (ap (λ (p : Parts). p.1) e) (ap (λ (p : Parts). p.2) e) (ap (λ (p : Parts). p.3) e) in
      rw (left.0, left.1, ap (λ (p : Parts). p.4) e)

-- the numbers after a loss mark are written, where it is done
pub lost_left : (n : List ℕ) (r : Registers) → r ≡ read_registers n → Fits32 r → (st : FramedInPlace) → st ≡ lost_in_place r →
    (word : ℕ) (ns : List ℕ) → word ≡ number_of st.answer → ns ≡ where_done st.answer (numbers_by narrowed st.registers) n →
    (kept xs ys : List Float) → (word, arrays ns kept xs ys) ≡ lost_call (arrays n kept xs ys)
unfolding lost_from lost_call
lost_left n r from fits st made word ns w m kept xs ys = rw (w, m, made, from) (go (fit_ring (read_registers n)) (rw from at fits))
  where
    go : (k : Result Lc3Config Refusal) → Fits32 (read_registers n) →
        let l = apart (lost_with (joined (read_registers n) [] [] []) k) in
        (number_of l.answer, arrays (where_done l.answer (numbers_by narrowed l.registers) n) kept xs ys)
        ≡ handed_numbers (arrays n kept xs ys) (lost_with (read_decoder (arrays n kept xs ys)) k)
    go (Err a) f = rw (written_whole (read_registers n) f)
    go (Ok c) f =
        let marked : Registers = record { marks = unsettled (read_registers n).marks; block_start_index = (read_registers n).block_start_index } in
        rw (written_whole marked (record { block = f.block; whole = f.whole; quarter = f.quarter }))
