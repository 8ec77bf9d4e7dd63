-- The definitions over bits, said of the bytes: a record's form as two numbers, and a reading by its first two bytes.
use Rattle.lag.specs.declared.pitch.Present.{Present}
use Rattle.std.proofs.Common.{Option, Some, None, Ok}
use Prim.Native.Nat.{ℕ, ◌+◌, ◌*◌, ◌/◌, ◌%◌, ◌^◌, ◌≤◌, ◌<◌}
use mathlib.Core.Path.{◌≡◌, refl, ap, ap₂, ◌∙◌}
use mathlib.Core.Bool.{Bool, true, false, cond}
use mathlib.Core.List.{List, [], ◌∷◌, ◌++◌}
use native.Mathlib.Nat.{mod-eq_of_lt}
use native.Mathlib.Omega.{arith}
use borrow.Author.Tests.{eq-eqb, ne_eqb, le-ltb}
use lib.Dec.{eqb, ltb}
use lib.ListN.{length, take, drop, replicate}
use Rattle.rates.specs.declared.answer.Refusal.TheVariants.{PaddingSet, TooFewBytes}
use Rattle.lag.specs.declared.pitch.PitchRecord.{PitchRecord}
use Rattle.packing.specs.Bits.{bits_of, value_of, bits_in, bytes_of, clear}
use Rattle.packing.specs.Form.{form}
use Rattle.packing.specs.Writings.{index_too_large, sent_writing}
use Rattle.packing.specs.Readings.{refused_reading, read_as, present_from, read_bits, reading}
use Rattle.packing.specs.declared.read.Reading.{Reading}
use Rattle.packing.proofs.Numbers.{value_bits, value_append, bits_append, clear_zero}

-- a reading that went well
abbrev pub done : PitchRecord → ℕ → Reading
done pitch used = record { answer = Ok tt; pitch = pitch; used = used }

-- and one that goes well where the padding is clear
abbrev pub if_clear : Bool → PitchRecord → ℕ → Reading
if_clear clear pitch used = cond clear (done pitch used) (refused_reading PaddingSet)

clear_low : (w n : ℕ) → clear (bits_of w n) ≡ eqb (n % 2 ^ w) 0
clear_low w n = clear_zero (bits_of w n) ∙ ap (λ (k : ℕ). eqb k 0) (value_bits w n)

pub absent_read : (a : ℕ) (rest : List ℕ) → a < 128 → reading (a ∷ rest) ≡ if_clear (eqb a 0) PitchRecord.Absent 1
unfolding reading read_bits bits_in bits_of
absent_read a rest h =
    ap (λ (b : Bool). read_bits (b ∷ (bits_of 7 a ++ bits_in rest))) (ne_eqb (a / 128 % 2) 1 (λ e. absurd (omega (arith, h, e))))
    ∙ ap (λ (b : Bool). if_clear b PitchRecord.Absent 1) (clear_low 7 a ∙ ap (λ (k : ℕ). eqb k 0) (mod-eq_of_lt h))

-- the index that stands in the lower six bits of a byte and the upper three of the next
abbrev pub index_in : ℕ → ℕ → ℕ
index_in a b = 8 * (a % 64) + b / 32

abbrev pub present_in : ℕ → ℕ → PitchRecord
present_in a b = PitchRecord.Present (record { index = index_in a b; active = eqb (a / 64 % 2) 1 })

pub present_read : (a b : ℕ) (rest : List ℕ) → 128 ≤ a → a < 256 → b < 256 →
    reading (a ∷ b ∷ rest) ≡ if_clear (eqb (b % 32) 0) (present_in a b) 2
unfolding reading read_bits bits_in bits_of
present_read a b rest l u v =
    let bits : List Bool = bits_of 7 a ++ (bits_of 3 (b / 32) ++ bits_of 5 b ++ bits_in rest) in
    ap (λ (x : Bool). read_bits (x ∷ (bits_of 7 a ++ (bits_of 8 b ++ bits_in rest)))) (eq-eqb (a / 128 % 2) 1 (omega (arith, l, u)))
    ∙ ap (λ (second : List Bool). read_bits (true ∷ (bits_of 7 a ++ (second ++ bits_in rest)))) (bits_append 3 5 b)
    ∙ ap (λ (x : Bool). cond x (refused_reading TooFewBytes) (read_as (present_from bits) 11 (true ∷ bits))) (le-ltb (length bits) 10 (omega arith))
    ∙ ap₂ (λ (x : Bool) (i : ℕ). if_clear x (PitchRecord.Present (record { index = i; active = eqb (a / 64 % 2) 1 })) 2)
    (clear_low 5 b)
    (value_append (bits_of 6 a) (bits_of 3 (b / 32)) ∙ omega (arith, v, value_bits 6 a, value_bits 3 (b / 32)))

pub present_clear : (a b : ℕ) (rest : List ℕ) → 128 ≤ a → a < 256 → b < 256 → b % 32 ≡ 0 → reading (a ∷ b ∷ rest) ≡ done (present_in a b) 2
present_clear a b rest l u v e =
    present_read a b rest l u v ∙ ap (λ (x : Bool). if_clear x (present_in a b) 2) (eq-eqb (b % 32) 0 e)

pub present_set : (a b : ℕ) (rest : List ℕ) → 128 ≤ a → a < 256 → b < 256 → (b % 32 ≡ 0 → ⊥) → reading (a ∷ b ∷ rest) ≡ refused_reading PaddingSet
present_set a b rest l u v n =
    present_read a b rest l u v ∙ ap (λ (x : Bool). if_clear x (present_in a b) 2) (ne_eqb (b % 32) 0 n)

-- the bytes end early: none at all, or one that says present
pub none : reading [] ≡ refused_reading TooFewBytes
unfolding reading read_bits bits_in
none = refl

pub early : (a : ℕ) → 128 ≤ a → a < 256 → reading (a ∷ []) ≡ refused_reading TooFewBytes
unfolding reading read_bits bits_in bits_of
early a l u = ap (λ (x : Bool). read_bits (x ∷ bits_of 7 a)) (eq-eqb (a / 128 % 2) 1 (omega (arith, l, u)))

-- the two bytes of a present record
pub form_present : (i : ℕ) (active : Bool) →
    form (Some (record { index = i; active = active })) ≡ (128 + (cond active 64 0 + i / 8 % 64)) ∷ (32 * (i % 8)) ∷ []
unfolding form bytes_of bits_of value_of
form_present i active =
    ap (λ (bits : List Bool). bytes_of 2 (true ∷ active ∷ (bits ++ replicate 5 false))) (bits_append 6 3 i)
    ∙ ap₂ {C = List ℕ} (λ (x y : ℕ). (128 + (cond active 64 0 + x)) ∷ y ∷ [])
    (value_bits 6 (i / 8))
    (value_append (bits_of 3 i) (replicate 5 false) ∙ omega (arith, value_bits 3 i))

-- the forms that the recorder's rules name: present, active, 380 is EF 80, and absent is 00
pub stated_forms : (form (Some (record { index = 380; active = true })) ≡ 239 ∷ 128 ∷ []) × (form None ≡ 0 ∷ [])
unfolding form bytes_of bits_of value_of
stated_forms = (refl, refl)

-- a record whose form is these bytes, written where they fit
pub written_over : (sent : Option Present) (bytes room : List ℕ) → index_too_large sent ≡ false → form sent ≡ bytes → length bytes ≤ length room →
    sent_writing sent room ≡ (record { answer = Ok tt; written = length bytes }, bytes ++ drop (length bytes) room)
unfolding sent_writing
written_over sent bytes room h e l = rw (h, e, le-ltb (length room) (length bytes) l)

-- no reading uses more than two bytes
pub at_most_two : (bytes : List ℕ) → (reading bytes).used ≤ 2
unfolding reading read_bits
at_most_two bytes = go (bits_in bytes)
  where
    part : (b : Bool) (x y : Reading) → x.used ≤ 2 → y.used ≤ 2 → (cond b x y).used ≤ 2
    part true x y p q = p
    part false x y p q = q

    go : (bits : List Bool) → (read_bits bits).used ≤ 2
    go [] = omega arith
    go (false ∷ bits) = part (clear (take 7 bits)) (done PitchRecord.Absent 1) (refused_reading PaddingSet) (omega arith) (omega arith)
    go (true ∷ bits) =
        part (ltb (length bits) 10) (refused_reading TooFewBytes) (read_as (present_from bits) 11 (true ∷ bits)) (omega arith)
        (part (clear (take 5 (drop 10 bits))) (done (present_from bits) 2) (refused_reading PaddingSet) (omega arith) (omega arith))
