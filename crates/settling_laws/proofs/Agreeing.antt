-- Two states that agree: equal registers, and pasts that are alike as far as a filter reaches. Every frame that is given to both gives the same
-- reply and leaves them so.
use Prim.Native.Nat.{ℕ, ◌+◌, ◌-◌, ◌≤◌}
use mathlib.Core.Path.{◌≡◌, refl, sym, ◌∙◌}
use mathlib.Core.Bool.{Bool, true, false}
use mathlib.Core.List.{List, [], ◌∷◌, ◌++◌, map}
use native.Mathlib.Omega.{arith}
use lib.Ieee.{Float}
use lib.ListN.{length, drop, length-drop}
use lib.Seq.{drop-drop}
use Rattle.std.proofs.Common.{Option}
use Rattle.rates.specs.declared.config.Lc3Config.{Lc3Config}
use Rattle.lag.specs.declared.rescale.Lag.{Lag}
use Rattle.lag.specs.declared.gain.Gain.{Gain}
use Rattle.coefficients.specs.Coefficients.{filter_of, new_filter}
use Rattle.filter.specs.Required.{Inside}
use Rattle.filter.proofs.Alike.{Alike, alike_later, append_alike, outputs_alike}
use Rattle.control.specs.State.{lag_fits}
use Rattle.judging.specs.Filters.{kept_filter, filter_for}
use Rattle.control.specs.Next.{next_marks}
use Rattle.control.proofs.Sizes.{FromTable}
use Rattle.judging.proofs.Readable.{readable, inside_reach}
use Rattle.judging.proofs.Judging.{declined, passed}
use Rattle.control.proofs.Reaching.{reach, reach_within}
use Rattle.rings.specs.Samples.{filtered}
use Rattle.decoder.specs.Frame.{accepted}
use Rattle.decoder.specs.declared.state.Decoder.{Decoder}
use Rattle.settling_laws.specs.Calls.{Given, frame, after, after_all, reply_of, reply, replies, FitState}
use Rattle.settling_laws.proofs.Held.{held, past_x, past_y}
use Rattle.settling_laws.proofs.Admitted.{Admitted, plan_for, admit, admit_fit, past_x_next, past_y_next}
use Rattle.settling_laws.proofs.Judging.{OutcomeOf, outcome_of, framed_on, admitted, after_judged, reply_judged}

pub drop_alike : (n from : ℕ) (a b : List Float) → Alike from a b → Alike (from - n) (drop n a) (drop n b)
drop_alike n from a b s =
    let later = alike_later from (n + (from - n)) a b (omega arith) s in
    record { long = simp length-drop (omega (arith, s.long)); rest = rw (drop-drop (from - n) n a, drop-drop (from - n) n b) later.rest }

-- the past before a frame, moved along by as much
pub moved_alike : (n from : ℕ) (p q f g : List Float) → from ≤ length p → Alike from p q → f ≡ g → Alike from (drop n (p ++ f)) (drop n (q ++ g))
moved_alike n from p q f g h s e = alike_later (from - n) from _ _ (omega arith) (drop_alike n from (p ++ f) (q ++ g) (append_alike from p q f g h s e))

-- where a filter may begin to read, and the relation
abbrev pub oldest : Lc3Config → ℕ
oldest c = c.history - reach c.fs

pub record Agree (c : Lc3Config) (a b : Decoder) : Type 0 where
  pub left : FitState c a
  pub right : FitState c b
  pub previous : a.registers.marks.ltpf_active_prev ≡ b.registers.marks.ltpf_active_prev
  pub kept : a.kept ≡ b.kept
  pub lag : a.registers.marks.lag ≡ b.registers.marks.lag
  pub run : a.registers.marks.run ≡ b.registers.marks.run
  pub settled : a.registers.marks.settled ≡ b.registers.marks.settled
  pub inputs : Alike (oldest c) (past_x c a) (past_x c b)
  pub outputs : Alike (oldest c) (past_y c a) (past_y c b)

-- an active frame's filter reads no further than its reach
new_inside : (c : Lc3Config) → FromTable c → (active : Bool) (gain : Option Gain) (lag : Lag) (nums dens : List Float) → lag_fits c.fs active lag ≡ true →
    active ≡ true → Inside (new_filter c.fs.l_den active gain lag nums dens) (reach c.fs)
unfolding new_filter filter_of
new_inside c k true gain lag nums dens l e = inside_reach c k _ refl lag refl l
new_inside c k false gain lag nums dens l e = cc

module _ {c : Lc3Config} {a b : Decoder} (g : Agree c a b) (f : Admitted c) where
  same_out : (admit a f).1 ≡ (admit b f).1
  unfolding accepted filtered
  same_out =
      let la = held c a g.left in
      let lb = held c b g.right in
      let k = lb.from in
      let w = reach_within c k in
      let old = kept_filter c.fs b.registers.marks b.kept in
      let new = filter_for (plan_for b f) f.numerators f.denominators in
      let inside_old : b.registers.marks.ltpf_active_prev ≡ true → Inside old (reach c.fs) =
      λ p. inside_reach c k old refl b.registers.marks.lag refl (rw p at lb.fitting.lag) in
      let x : Alike (oldest c) (past_x c a ++ f.samples) (past_x c b ++ f.samples) =
      append_alike (oldest c) (past_x c a) (past_x c b) f.samples f.samples (omega (arith, la.long_x)) g.inputs refl in
      rw (g.previous, g.lag, g.kept)
      (alike_later (oldest c) c.history _ _ (omega arith)
      (outputs_alike (oldest c) (reach c.fs) c.fs.fade _ _ _ _ (omega (arith, la.long_y)) x g.outputs _ _ new
      (readable b.registers.marks.ltpf_active_prev f.active b.registers.marks.lag f.lag old new (reach c.fs) inside_old
      (new_inside c k f.active f.gain f.lag f.numerators f.denominators f.lag_fits_lem)))).rest

  same_mark : (admit a f).0.registers.marks.settled ≡ (admit b f).0.registers.marks.settled
  unfolding accepted next_marks
  same_mark = cc

  agree_admitted : Agree c (admit a f).0 (admit b f).0
  unfolding accepted next_marks
  agree_admitted =
      let la = held c a g.left in
      record {
        left = admit_fit g.left f;
        right = admit_fit g.right f;
        previous = refl;
        kept = refl;
        lag = refl;
        run = cc;
        settled = same_mark;
        inputs = rw (past_x_next g.left f, past_x_next g.right f)
            (moved_alike c.nf (oldest c) _ _ f.samples f.samples (omega (arith, la.long_x)) g.inputs refl);
        outputs = rw (past_y_next g.left f, past_y_next g.right f)
            (moved_alike c.nf (oldest c) _ _ _ _ (omega (arith, la.long_y)) g.outputs same_out);
      }

module _ (c : Lc3Config) (f : Given) (a b : Decoder) (g : Agree c a b) where
  agree_judged : (o : OutcomeOf c f) → Agree c (framed_on c f a o).0.decoder (framed_on c f b o).0.decoder
  agree_judged (declined why l h) = g
  agree_judged (passed lag p) = agree_admitted g (admitted c f lag p)

  same_judged : (o : OutcomeOf c f) → reply_of (framed_on c f a o) ≡ reply_of (framed_on c f b o)
  same_judged (declined why l h) = rw g.settled
  same_judged (passed lag p) = rw (same_out g (admitted c f lag p), same_mark g (admitted c f lag p))

  agree_after : Agree c (after a (frame f)) (after b (frame f))
  agree_after = rw (after_judged c f a g.left, after_judged c f b g.right) (agree_judged (outcome_of c f))

  same_reply : reply a (frame f) ≡ reply b (frame f)
  same_reply = reply_judged c f a g.left ∙ same_judged (outcome_of c f) ∙ sym (reply_judged c f b g.right)

-- and so every list of frames
pub agree_frames : (c : Lc3Config) (a b : Decoder) → Agree c a b → (later : List Given) → Agree c (after_all a (map frame later)) (after_all b (map frame later))
agree_frames c a b g [] = g
agree_frames c a b g (f ∷ earlier) = agree_after c f _ _ (agree_frames c a b g earlier)

pub same_replies : (c : Lc3Config) (a b : Decoder) → Agree c a b → (later : List Given) → replies a (map frame later) ≡ replies b (map frame later)
same_replies c a b g [] = refl
same_replies c a b g (f ∷ earlier) = rw (same_reply c f _ _ (agree_frames c a b g earlier), same_replies c a b g earlier)
