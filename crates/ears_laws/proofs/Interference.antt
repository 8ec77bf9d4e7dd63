-- NO INTERFERENCE, in one frame of both ears. What an ear has of it is its Framed (answer, settled report, state) and its samples in the buffer
-- at exit. The states are any whose rings are arrays of 1,080 samples.
-- `left_alone`: nothing that the left ear has depends on the right ear's state (but for the rate and duration that it names), pitch record or
-- samples. `right_alone`: the other way round.
-- `as_one_decoder`: where both states name one rate and one duration and the buffer's length is even, each ear has just what the frame of one
-- decoder gives its own state, record and samples with the set and nbits.
-- `ears_differ`: where they name different ones both answers are 13, and the states, reports and the buffer are as before.
-- `refused_ear_keeps`: an ear whose answer is not 0 keeps its state, its report and its samples, whatever the other ear's part did.
-- `odd_buffer`: in a buffer of odd length an ear whose names are alike, whose state is fit and whose set is good is answered 5.
use Prim.Native.Nat.{ℕ, ◌+◌, ◌*◌}
use mathlib.Core.Path.{◌≡◌, refl, sym, ◌∙◌, ap}
use mathlib.Core.Bool.{Bool, true, false}
use mathlib.Core.List.{List}
use native.Mathlib.Omega.{arith}
use borrow.Author.Tests.{eqb-true, eq-eqb, ne_eqb}
use lib.Dec.{eqb}
use lib.Ieee.{Float}
use lib.ListN.{length}
use Rattle.std.proofs.Common.{Result, Ok, Err}
use Rattle.rates.specs.Answers.{number_of}
use Rattle.rates.specs.declared.config.Lc3Config.{Lc3Config}
use Rattle.rates.proofs.Known.{both}
use Rattle.rates.specs.declared.answer.Refusal.{Refusal}
use Rattle.lag.specs.declared.pitch.PitchRecord.{PitchRecord}
use Rattle.judging.specs.Judge.{set_counts, set_finite}
use Rattle.judging.specs.declared.plan.Plan.{Plan}
use Rattle.decoder.specs.State.{fit_decoder}
use Rattle.decoder.specs.Frame.{framed}
use Rattle.decoder.specs.declared.state.Decoder.{Decoder}
use Rattle.decoder.specs.declared.frame.Framed.{Framed}
use Rattle.interleave.specs.Turns.{lefts, rights}
use Rattle.ears_judging.specs.Judge.{named_alike}
use Rattle.ears.specs.Both.{ear_framed, both_framed}
use Rattle.ears_laws.specs.Calls.{Headset, WhichEar, left_ear, right_ear, own, Rings, Arrays, Given, framed_both, frame, after, samples_of, pitch_of, part_of, EarGiven, given_to, ear_framed_by}
use Rattle.interleave.proofs.Buffers.{turned, taken_apart, lengths, halves}
use Rattle.ears_laws.proofs.AsOne.{Halved, on_verdict, verdict_on, by_verdict, whole_framed, other_framed, keeps}

-- the two states name one rate and one duration
abbrev pub NamedAlike : Headset → Type 0
NamedAlike h = (h.left.registers.marks.rate ≡ h.right.registers.marks.rate) × (h.left.registers.marks.duration ≡ h.right.registers.marks.duration)

named_alike_lem : (h : Headset) → NamedAlike h → named_alike h.left.registers.marks h.right.registers.marks ≡ true
named_alike_lem h n = rw (eq-eqb h.left.registers.marks.rate h.right.registers.marks.rate n.0, eq-eqb h.left.registers.marks.duration h.right.registers.marks.duration n.1)

not-true : (b : Bool) → (b ≡ true → ⊥) → b ≡ false
not-true true n = absurd (n refl)
not-true false n = refl

named_differ : (h : Headset) → (NamedAlike h → ⊥) → named_alike h.left.registers.marks h.right.registers.marks ≡ false
named_differ h n =
    let l = h.left.registers.marks in
    let r = h.right.registers.marks in
    not-true (named_alike l r) (λ w.
    let k = both (eqb l.rate r.rate) (eqb l.duration r.duration) w in
    n (eqb-true l.rate r.rate k.0, eqb-true l.duration r.duration k.1))

ear_refused : (d : Decoder) (g : EarGiven) → (number_of (ear_framed_by d g).0.answer ≡ 0 → ⊥) →
    ((ear_framed_by d g).0.decoder ≡ d) × ((ear_framed_by d g).0.settled ≡ d.registers.marks.settled) × ((ear_framed_by d g).1 ≡ g.samples)
ear_refused d g n = go (verdict_on g g.shared.alike d.registers) (by_verdict d g)
  where
    go : (v : Result Plan Refusal) → ear_framed_by d g ≡ on_verdict d g v →
        ((ear_framed_by d g).0.decoder ≡ d) × ((ear_framed_by d g).0.settled ≡ d.registers.marks.settled) × ((ear_framed_by d g).1 ≡ g.samples)
    go (Err refusal) e = rw e (refl, refl, refl)
    go (Ok plan) e = absurd (n (rw e))

-- an ear's samples are half of an even buffer
pub given_halved : (e : WhichEar) (h : Headset) (f : Given) → Halved (given_to e h f)
given_halved left_ear h f n e = (halves f.samples n e).0
given_halved right_ear h f n e = (halves f.samples n e).1

-- what an ear has of a frame of both is what its own frame gives
pub at_exit : (e : WhichEar) (h : Headset) → Arrays h → (f : Given) → part_of e (framed_both h f) ≡ ear_framed_by (own e h) (given_to e h f)
at_exit e h r f = go e
  where
    apart : (lefts (framed_both h f).2 ≡ (ear_framed_by h.left (given_to left_ear h f)).1) × (rights (framed_both h f).2 ≡ (ear_framed_by h.right (given_to right_ear h f)).1)
    apart =
        let l = (keeps h.left (given_to left_ear h f) r.0 (given_halved left_ear h f)).0 in
        let k = (keeps h.right (given_to right_ear h f) r.1 (given_halved right_ear h f)).0 in
        let all = lengths f.samples in
        taken_apart _ _ (omega arith) (omega arith)

    go : (e : WhichEar) → part_of e (framed_both h f) ≡ ear_framed_by (own e h) (given_to e h f)
    go left_ear = rw apart.0
    go right_ear = rw apart.1

alone : (e : WhichEar) (h i : Headset) → Arrays h → Arrays i → (f g : Given) → own e h ≡ own e i → given_to e h f ≡ given_to e i g →
    part_of e (framed_both h f) ≡ part_of e (framed_both i g)
alone e h i r q f g o same = at_exit e h r f ∙ ap (λ d. ear_framed_by d (given_to e h f)) o ∙ ap (ear_framed_by (own e i)) same ∙ sym (at_exit e i q g)

module _ (numerators denominators : List Float) (nbits : ℕ) (pl pr : PitchRecord) (b c : List Float) (long : length b ≡ length c) where
  pub left_alone : (l r q : Decoder) → Rings l → Rings r → Rings q →
      r.registers.marks.rate ≡ q.registers.marks.rate → r.registers.marks.duration ≡ q.registers.marks.duration → (pq : PitchRecord) → lefts b ≡ lefts c →
      part_of left_ear (both_framed l r numerators denominators pl pr nbits b) ≡ part_of left_ear (both_framed l q numerators denominators pl pq nbits c)
  left_alone l r q al ar aq hz us pq s =
      alone left_ear (record { left = l; right = r }) (record { left = l; right = q }) (al, ar) (al, aq)
      (record { numerators = numerators; denominators = denominators; left_pitch = pl; right_pitch = pr; nbits = nbits; samples = b })
      (record { numerators = numerators; denominators = denominators; left_pitch = pl; right_pitch = pq; nbits = nbits; samples = c })
      refl (rw (hz, us, long, s))

  pub right_alone : (l q r : Decoder) → Rings l → Rings q → Rings r →
      l.registers.marks.rate ≡ q.registers.marks.rate → l.registers.marks.duration ≡ q.registers.marks.duration → (pq : PitchRecord) → rights b ≡ rights c →
      part_of right_ear (both_framed l r numerators denominators pl pr nbits b) ≡ part_of right_ear (both_framed q r numerators denominators pq pr nbits c)
  right_alone l q r al aq ar hz us pq s =
      alone right_ear (record { left = l; right = r }) (record { left = q; right = r }) (al, ar) (aq, ar)
      (record { numerators = numerators; denominators = denominators; left_pitch = pl; right_pitch = pr; nbits = nbits; samples = b })
      (record { numerators = numerators; denominators = denominators; left_pitch = pq; right_pitch = pr; nbits = nbits; samples = c })
      refl (rw (hz, us, long, s))

pub as_one_decoder : (e : WhichEar) (h : Headset) → Arrays h → NamedAlike h → (f : Given) (k : ℕ) → length f.samples ≡ 2 * k →
    part_of e (framed_both h f) ≡
    framed (own e h) f.numerators f.denominators (record { pitch = pitch_of e f; nbits = f.nbits }) (samples_of e f.samples)
as_one_decoder e h r n f k even =
    let half = given_halved e h f k even in
    at_exit e h r f ∙ whole_framed (given_to e h f) (own e h) (rw (
      named_alike_lem h n,
      eq-eqb (length f.samples) (2 * length (samples_of e f.samples)) (omega arith),
    ))

pub refused_ear_keeps : (e : WhichEar) (h : Headset) → Arrays h → (f : Given) → (number_of (part_of e (framed_both h f)).0.answer ≡ 0 → ⊥) →
    (own e (after h (frame f)) ≡ own e h) × ((part_of e (framed_both h f)).0.settled ≡ (own e h).registers.marks.settled) ×
    (samples_of e (framed_both h f).2 ≡ samples_of e f.samples)
refused_ear_keeps left_ear h r f n =
    let k = ear_refused h.left (given_to left_ear h f) n in (k.0, k.1, ap (λ (p : Framed × List Float). p.1) (at_exit left_ear h r f) ∙ k.2)
refused_ear_keeps right_ear h r f n =
    let k = ear_refused h.right (given_to right_ear h f) n in (k.0, k.1, ap (λ (p : Framed × List Float). p.1) (at_exit right_ear h r f) ∙ k.2)

pub odd_buffer : (e : WhichEar) (h : Headset) → Arrays h → NamedAlike h → (f : Given) (k : ℕ) → length f.samples ≡ 2 * k + 1 →
    (c : Lc3Config) → fit_decoder (own e h) ≡ Ok c → set_counts c.fs.l_den f.numerators f.denominators ≡ true → set_finite f.numerators f.denominators ≡ true →
    number_of (part_of e (framed_both h f)).0.answer ≡ 5
odd_buffer e h r n f k odd c fit counts finite =
    let half : length f.samples ≡ 2 * length (samples_of e f.samples) → ⊥ = λ q. omega arith in
    let g = given_to e h f in
    ap (λ (p : Framed × List Float). number_of p.0.answer) (at_exit e h r f ∙ other_framed g (own e h) (given_halved e h f) (rw (
      named_alike_lem h n,
      ne_eqb (length f.samples) (2 * length (samples_of e f.samples)) half,
    )))
    ∙ rw (named_alike_lem h n, fit, counts, finite)

pub ears_differ : (h : Headset) → (NamedAlike h → ⊥) → (f : Given) →
    (number_of (framed_both h f).0.answer ≡ 13) × (number_of (framed_both h f).1.answer ≡ 13) × (after h (frame f) ≡ h) ×
    ((framed_both h f).0.settled ≡ h.left.registers.marks.settled) × ((framed_both h f).1.settled ≡ h.right.registers.marks.settled) ×
    ((framed_both h f).2 ≡ f.samples)
unfolding ear_framed
ears_differ h n f = rw (named_differ h n) (refl, refl, refl, refl, refl, turned f.samples)
