-- The three steps of an ear's frame, refused or not: what they ask is there, and together they give what a single decoder's frame gives.
use Rattle.rates.specs.declared.answer.Refusal.{Refusal}
use Rattle.std.proofs.Common.{Result, Ok, Err}
use Prim.Native.Nat.{ℕ, ◌*◌}
use mathlib.Core.Path.{◌≡◌, refl, sym, ◌∙◌, ap}
use mathlib.Core.List.{List}
use native.Mathlib.Omega.{arith}
use lib.Ieee.{Float}
use lib.ListN.{length}
use Rattle.rings.proofs.StraightLines.{untouched}
use Rattle.judging.specs.declared.plan.Plan.{Plan}
use Rattle.on_ring.specs.Required.{Judged}
use Rattle.on_ring.specs.declared.registers.Registers.{Registers}
use Rattle.on_ring.proofs.Checks.{sizes, block_fits_lem, filtering}
use Rattle.decoder.specs.Frame.{framed_with}
use Rattle.decoder.specs.InPlace.{all_apart}
use Rattle.decoder.specs.declared.frame.Framed.{Framed}
use Rattle.decoder.specs.declared.frame.FramedInPlace.{FramedInPlace}
use Rattle.decoder.proofs.TakenUp.{taken_up_lem, outs_in_place}
use Rattle.interleave.specs.Turns.{lefts, rights, in_turn}
use Rattle.interleave.proofs.Buffers.{halves}
use Rattle.ears_judging.specs.Judge.{Shared, judged_ear, shared_by, judged_both}
use Rattle.ears_judging.specs.declared.judge.Verdicts.{Verdicts}
use Rattle.ears_judging.specs.declared.ear.Ear.{Ear}
use Rattle.ears_judging.proofs.Verdicts.{accepted_ear}
use Rattle.ears.specs.Both.{ear_framed, both_of}
use Rattle.ears.specs.InPlace.{state_of, both_apart}
use Rattle.ears.specs.Carry.{taken_up, stepped, handed}
use Rattle.ears.specs.Required.{Room, Whole, Steppable, Still}
use Rattle.ears.specs.declared.frame.BothFramed.{BothFramed}

-- an accepted frame is answered with 0
abbrev answered : Registers × List Float × List Float × List Float × List Float → FramedInPlace × List Float × List Float × List Float × List Float
answered q = (record { answer = (Ok tt); registers = q.0 }, q.1, q.2, q.3, q.4)

-- an ear's verdict, by what both share and by its own half of a buffer of theirs
pub record Told (s : Shared) (ear : Ear) (own : List Float) (v : Result Plan Refusal) : Type 0 where
  pub verdict : v ≡ judged_ear s.alike s ear.registers ear.pitch own
  pub half : (k : ℕ) → s.count ≡ 2 * k → length own ≡ k

-- those of both
pub both_told : (l r : Ear) (numerators denominators : List Float) (nbits : ℕ) (b : List Float) (v : Verdicts) →
    v ≡ judged_both l r numerators denominators nbits b →
    let s = shared_by l.registers r.registers numerators denominators nbits b in
    Told s l (lefts b) v.left × Told s r (rights b) v.right
both_told l r numerators denominators nbits b v e = (
  record { verdict = ap (λ w. w.left) e; half = λ k h. (halves b k h).0 },
  record { verdict = ap (λ w. w.right) e; half = λ k h. (halves b k h).1 },
)

module _ {s : Shared} {ear : Ear} {own : List Float} {v : Result Plan Refusal} (told : Told s ear own v) where
  abbrev start : ℕ
  start = ear.registers.block_start_index

  ready : (plan : Plan) → v ≡ Ok plan → Judged ear.registers s.numerators s.denominators own plan × (s.count ≡ 2 * plan.config.nf)
  ready plan e = accepted_ear s.alike s ear.registers ear.pitch own plan told.half (sym told.verdict ∙ e)

  -- a block inside the ring, and a frame that can be filtered there
  pub room : (buffer : List Float) → s.count ≡ length buffer → Room v start buffer
  room buffer n plan e =
      let j = ready plan e in
      record {
        count = omega (arith, j.1);
        most = omega (arith, (sizes j.0).twice, (sizes j.0).line_fits);
        block = omega (arith, (block_fits_lem j.0).1);
      }

  pub steppable : (kept xs ys : List Float) → Steppable ear v kept xs ys s.numerators s.denominators
  steppable kept xs ys plan e =
      let j = (ready plan e).0 in
      record { filtering = filtering j kept xs ys; next = omega (arith, (block_fits_lem j).1) }

  module _ (kept xs ys : List Float) (x : Whole v xs) (y : Whole v ys) (f : FramedInPlace) (kept' xs' ys' : List Float)
      (taken : xs' ≡ taken_up v start own xs)
      (step : ◌≡◌ {A = FramedInPlace × List Float × List Float} (f, kept', ys') (stepped ear v kept xs' ys s.numerators s.denominators)) where
    -- in the first case the samples stand among the outputs
    pub still : Still v start ys' own
    still plan e idle =
        let j = (ready plan e).0 in
        let filled = ap (λ q. q.2) (rw (rw e at taken) at (rw e at step)) in
        rw filled
        (outs_in_place j kept xs ys (x plan e) (y plan e) ∙ sym (rw idle (untouched (rw idle at (filtering j kept xs ys (x plan e) (y plan e)).filterable) own)))

    -- the steps together
    pub ear_apart : (out : List Float) → out ≡ handed v start ys' own →
        ◌≡◌ {A = FramedInPlace × List Float × List Float × List Float × List Float} (f, kept', xs', ys', out)
        (all_apart (ear_framed s (state_of ear kept xs ys) ear.pitch own))
    unfolding ear_framed
    ear_apart out handed-back = rw (← told.verdict) (go v refl taken step handed-back)
      where
        go : (w : Result Plan Refusal) → v ≡ w → xs' ≡ taken_up w start own xs →
            ◌≡◌ {A = FramedInPlace × List Float × List Float} (f, kept', ys') (stepped ear w kept xs' ys s.numerators s.denominators) →
            out ≡ handed w start ys' own →
            ◌≡◌ {A = FramedInPlace × List Float × List Float × List Float × List Float} (f, kept', xs', ys', out)
            (all_apart (framed_with (state_of ear kept xs ys) s.numerators s.denominators own w))
        go (Err refusal) e t st h = rw (ap (λ q. q.0) st, ap (λ q. q.1) st, t, ap (λ q. q.2) st, h)
        go (Ok plan) e t st h =
            let j = (ready plan e).0 in
            let filled = ap (λ q. q.2) (rw t at st) in
            rw (ap (λ q. q.0) st, t)
            (ap answered (taken_up_lem j kept xs ys (x plan e) (y plan e) _ kept' ys' out refl (ap (λ q. q.1) st) filled
            (rw filled at h ∙ outs_in_place j kept xs ys (x plan e) (y plan e))))

-- what both ears give, put together
pub both_apart_lem : (a b : Framed × List Float) {f g : FramedInPlace} {k x y out m u w rest : List Float} →
    ◌≡◌ {A = FramedInPlace × List Float × List Float × List Float × List Float} (f, k, x, y, out) (all_apart a) →
    ◌≡◌ {A = FramedInPlace × List Float × List Float × List Float × List Float} (g, m, u, w, rest) (all_apart b) →
    ◌≡◌ {A = BothFramed × List Float × List Float × List Float × List Float × List Float × List Float × List Float}
    (record { left = f; right = g }, k, x, y, m, u, w, in_turn out rest) (both_apart (both_of a b))
both_apart_lem a b e d =
    rw (
      ap (λ q. q.0) e,
      ap (λ q. q.1) e,
      ap (λ q. q.2) e,
      ap (λ q. q.3) e,
      ap (λ q. q.4) e,
      ap (λ q. q.0) d,
      ap (λ q. q.1) d,
      ap (λ q. q.2) d,
      ap (λ q. q.3) d,
      ap (λ q. q.4) d,
    )
