-- What is written reads back, and what is read stands in the one form that its record has.
use Rattle.lag.specs.declared.pitch.Present.{Present}
use Rattle.std.proofs.Common.{Option, Some, None, Ok}
use Prim.Native.Nat.{ℕ, ◌+◌, ◌*◌, ◌/◌, ◌%◌, ◌≤◌, ◌<◌}
use mathlib.Core.Path.{◌≡◌, refl, sym, ap, ap₂, subst, ◌∙◌}
use mathlib.Core.Bool.{Bool, true, false, cond}
use mathlib.Core.List.{List, [], ◌∷◌, ◌++◌}
use native.Mathlib.Omega.{arith}
use borrow.Author.Tests.{eq-eqb, ne_eqb, eqb-true, eqb-false, le-ltb, ltb-false, leb-true, leb-false}
use lib.Dec.{eqb, leb, ltb}
use lib.ListN.{length, take, drop, get_or}
use lib.Seq.{take-append_seam}
use Rattle.rates.specs.declared.answer.Refusal.{Refusal}
use Rattle.rates.specs.declared.answer.Refusal.TheVariants.{IndexTooLarge, PaddingSet, TooFewBytes}
use Rattle.lag.specs.declared.pitch.PitchRecord.{PitchRecord}
use Rattle.lag.specs.Sent.{sent_of, received_of}
use Rattle.lag.proofs.Receiving.{received_as_sent}
use Rattle.packing.specs.Bits.{bits_of, bytes_of, value_of}
use Rattle.packing.specs.Form.{form}
use Rattle.packing.specs.Writings.{index_too_large, refused_writing, sent_writing, writing}
use Rattle.packing.specs.Readings.{refused_reading, reading}
use Rattle.packing.specs.declared.read.Reading.{Reading}
use Rattle.packing.specs.declared.write.Writing.{Writing}
use Rattle.packing.proofs.ByBytes.{done, if_clear, index_in, present_in, none, absent_read, present_read, present_clear, early, form_present, written_over}

-- a form reads as the record that is received, whatever follows
form_read : (sent : Option Present) (more : List ℕ) → index_too_large sent ≡ false → reading (form sent ++ more) ≡ done (received_of sent) (length (form sent))
unfolding form bytes_of bits_of value_of
form_read None more h = absent_read 0 more (omega arith)
form_read (Some p) more h =
    ap (λ (bytes : List ℕ). reading (bytes ++ more)) (form_present i p.active)
    ∙ present_clear (first p.active) (32 * (i % 8)) more (omega arith) (below p.active) (omega arith) (omega arith)
    ∙ ap₂ (λ (index : ℕ) (active : Bool). done (PitchRecord.Present (record { index = index; active = active })) 2) (index p.active) (active p.active)
  where
    i : ℕ
    i = p.index

    first : Bool → ℕ
    first on = 128 + (cond on 64 0 + i / 8 % 64)

    below : (on : Bool) → first on < 256
    below true = omega arith
    below false = omega arith

    index : (on : Bool) → 8 * (first on % 64) + 32 * (i % 8) / 32 ≡ i
    index true = omega (arith, ltb-false 511 i h)
    index false = omega (arith, ltb-false 511 i h)

    active : (on : Bool) → eqb (first on / 64 % 2) 1 ≡ on
    active true = eq-eqb (first true / 64 % 2) 1 (omega arith)
    active false = ne_eqb (first false / 64 % 2) 1 (λ e. absurd (omega (arith, e)))

-- Reading what was written gives what is received of what was sent, and its length, whatever follows it.
sent_reads_back : (sent : Option Present) (bytes more : List ℕ) → (sent_writing sent bytes).0.answer ≡ Ok tt →
    reading (take (sent_writing sent bytes).0.written (sent_writing sent bytes).1 ++ more) ≡ done (received_of sent) (sent_writing sent bytes).0.written
unfolding sent_writing
sent_reads_back sent bytes more = go (index_too_large sent) (ltb (length bytes) (length (form sent))) refl
  where
    outcome : Bool → Bool → Writing × List ℕ
    outcome large short =
        cond large (refused_writing IndexTooLarge, bytes)
        (cond short (refused_writing TooFewBytes, bytes)
        (record { answer = Ok tt; written = length (form sent) }, form sent ++ drop (length (form sent)) bytes))

    go : (large short : Bool) → index_too_large sent ≡ large → (outcome large short).0.answer ≡ Ok tt →
        reading (take (outcome large short).0.written (outcome large short).1 ++ more) ≡ done (received_of sent) (outcome large short).0.written
    go true short h e = cc
    go false true h e = cc
    go false false h e =
        ap (λ (front : List ℕ). reading (front ++ more)) (take-append_seam (form sent) (drop (length (form sent)) bytes)) ∙ form_read sent more h

-- So it gives the record back.
pub reads_back : (pitch : PitchRecord) (bytes more : List ℕ) → (writing pitch bytes).0.answer ≡ Ok tt →
    reading (take (writing pitch bytes).0.written (writing pitch bytes).1 ++ more) ≡
    record { answer = Ok tt; pitch = pitch; used = (writing pitch bytes).0.written }
reads_back pitch bytes more e =
    sent_reads_back (sent_of pitch) bytes more e ∙ ap (λ (p : PitchRecord). done p (writing pitch bytes).0.written) (received_as_sent pitch)

-- where a reading is done, writing its record gives the bytes that it used
abbrev Formed : List ℕ → Reading → Type 0
Formed bytes r = r.answer ≡ Ok tt → (room : List ℕ) → r.used ≤ length room →
    writing r.pitch room ≡ (record { answer = Ok tt; written = r.used }, take r.used bytes ++ drop r.used room)

no_record : (bytes : List ℕ) (refusal : Refusal) → Formed bytes (refused_reading refusal)
no_record bytes refusal e = cc

one_byte : (a : ℕ) (rest : List ℕ) → a < 128 → Formed (a ∷ rest) (reading (a ∷ rest))
unfolding form bytes_of value_of
one_byte a rest h = subst (Formed (a ∷ rest)) (sym (absent_read a rest h)) (go (eqb a 0) refl)
  where
    go : (b : Bool) → eqb a 0 ≡ b → Formed (a ∷ rest) (if_clear b PitchRecord.Absent 1)
    go false e = no_record (a ∷ rest) PaddingSet
    go true e = λ d room l. written_over None (a ∷ []) room refl (ap {B = List ℕ} (λ (x : ℕ). x ∷ []) (sym (eqb-true a 0 e))) l

two_bytes : (a b : ℕ) (rest : List ℕ) → 128 ≤ a → a < 256 → b < 256 → Formed (a ∷ b ∷ rest) (reading (a ∷ b ∷ rest))
two_bytes a b rest l u v = subst (Formed (a ∷ b ∷ rest)) (sym (present_read a b rest l u v)) (go (eqb (b % 32) 0) refl)
  where
    first : (on : Bool) → eqb (a / 64 % 2) 1 ≡ on → 128 + (cond on 64 0 + index_in a b / 8 % 64) ≡ a
    first true e = omega (arith, l, u, v, eqb-true (a / 64 % 2) 1 e)
    first false e = omega (arith, l, u, v, eqb-false (a / 64 % 2) 1 e)

    go : (clear : Bool) → eqb (b % 32) 0 ≡ clear → Formed (a ∷ b ∷ rest) (if_clear clear (present_in a b) 2)
    go false e = no_record (a ∷ b ∷ rest) PaddingSet
    go true e = λ d room space.
        written_over (sent_of (present_in a b)) (a ∷ b ∷ []) room (le-ltb 511 (index_in a b) (omega (arith, v)))
        (form_present (index_in a b) (eqb (a / 64 % 2) 1)
        ∙ ap₂ {C = List ℕ} (λ (x y : ℕ). x ∷ y ∷ []) (first (eqb (a / 64 % 2) 1) refl) (omega (arith, v, eqb-true (b % 32) 0 e)))
        space

-- Writing what was read gives the bytes that were used, so each record has one form only.
pub one_form : (bytes room : List ℕ) → ((i : ℕ) → get_or bytes i 0 < 256) → (reading bytes).answer ≡ Ok tt → (reading bytes).used ≤ length room →
    writing (reading bytes).pitch room ≡
    (record { answer = Ok tt; written = (reading bytes).used }, take (reading bytes).used bytes ++ drop (reading bytes).used room)
one_form bytes room b e l = go bytes b e room l
  where
    from : (a : ℕ) (rest : List ℕ) → ((i : ℕ) → get_or (a ∷ rest) i 0 < 256) → (present : Bool) → leb 128 a ≡ present → Formed (a ∷ rest) (reading (a ∷ rest))
    from a rest b false p = one_byte a rest (leb-false 128 a p)
    from a [] b true p = subst (Formed (a ∷ [])) (sym (early a (leb-true 128 a p) (b 0))) (no_record (a ∷ []) TooFewBytes)
    from a (c ∷ rest) b true p = two_bytes a c rest (leb-true 128 a p) (b 0) (b 1)

    go : (bytes : List ℕ) → ((i : ℕ) → get_or bytes i 0 < 256) → Formed bytes (reading bytes)
    go [] b = subst (Formed []) (sym none) (no_record [] TooFewBytes)
    go (a ∷ rest) b = from a rest b (leb 128 a) refl
