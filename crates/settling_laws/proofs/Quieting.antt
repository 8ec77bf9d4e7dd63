-- Inactive frames in a row: what they copy, and that the limit's number of them makes any two states agree.
use Prim.Native.Nat.{ℕ, suc, ◌+◌, ◌-◌, ◌*◌, ◌≤◌}
use mathlib.Core.Path.{◌≡◌, refl, sym, ◌∙◌}
use mathlib.Core.Bool.{Bool, true, false}
use mathlib.Core.List.{List, [], ◌∷◌, ◌++◌}
use native.Mathlib.Nat.{suc-mul}
use native.Mathlib.Omega.{arith}
use lib.Ieee.{Float}
use lib.ListN.{length, drop, length-append}
use lib.Seq.{drop_at, drop-drop}
use Rattle.rates.specs.declared.config.Lc3Config.{Lc3Config}
use Rattle.coefficients.specs.Coefficients.{no_filter, new_filter, Filter}
use Rattle.filter.specs.Fade.{grow, faded}
use Rattle.filter.specs.Transition.{transition_of, outputs, case_deactivated}
use Rattle.filter.specs.declared.fade.Direction.TheVariants.{Out}
use Rattle.filter.specs.declared.transition.Transition.TheVariants.{Inactive, Deactivated}
use Rattle.filter.proofs.Alike.{Alike, alike_later, append_alike}
use Rattle.filter.proofs.Growing.{length_grow}
use Rattle.control.specs.State.{settled_limit}
use Rattle.judging.specs.Filters.{kept_filter}
use Rattle.control.specs.Next.{next_marks}
use Rattle.control.proofs.Sizes.{sized}
use Rattle.control.proofs.Reaching.{reach, reach_within, limit_enough}
use Rattle.rings.specs.Samples.{filtered}
use Rattle.decoder.specs.Frame.{accepted}
use Rattle.decoder.specs.declared.state.Decoder.{Decoder}
use Rattle.settling_laws.specs.Calls.{FitState}
use Rattle.settling_laws.proofs.Held.{held, past_x, past_y}
use Rattle.settling_laws.proofs.Admitted.{admit_long, admit_fit, past_x_next, past_y_next}
use Rattle.settling_laws.proofs.Hearing.{quieted, quiet_frame, quiet_all, AllLong}
use Rattle.settling_laws.proofs.Counting.{at_limit}
use Rattle.settling_laws.proofs.Agreeing.{drop_alike, oldest, Agree}

-- case 1 copies the frame, and case 3 what lies after the fade
module _ (old new : Filter) (fade history : ℕ) (px py samples : List Float) (ex : length px ≡ history) (ey : length py ≡ history) where
  inactive_copies : drop history (outputs Inactive old new fade (px ++ samples) py) ≡ samples
  unfolding outputs
  inactive_copies = drop_at py _ history ey ∙ rw ey (drop_at px samples history ex)

  deactivated_copies : drop fade (drop history (outputs Deactivated old new fade (px ++ samples) py)) ≡ drop fade samples
  unfolding outputs case_deactivated
  deactivated_copies =
      let long = length_grow (faded Out (length py) fade old (px ++ samples)) py fade in
      drop-drop fade history _ ∙ drop_at (grow (faded Out (length py) fade old (px ++ samples)) py fade) _ (history + fade) (omega (arith, long))
      ∙ rw (ey, ← drop-drop fade history (px ++ samples), drop_at px samples history ex)

module _ (c : Lc3Config) (d : Decoder) (s : FitState c d) (samples : List Float) (count : length samples ≡ c.nf) where
  quieted_fit : FitState c (quieted c d samples).0
  quieted_fit = admit_fit s (quiet_frame c samples count)

  quiet_long : length (quieted c d samples).1 ≡ c.nf
  quiet_long = admit_long s (quiet_frame c samples count)

  -- after an inactive frame the samples are copied
  pub quiet_copy : d.registers.marks.ltpf_active_prev ≡ false → (quieted c d samples).1 ≡ samples
  unfolding accepted filtered transition_of new_filter
  quiet_copy p =
      let h = held c d s in
      rw p (inactive_copies (kept_filter c.fs d.registers.marks d.kept) (no_filter c.fs.l_den) c.fs.fade c.history (past_x c d) (past_y c d) samples h.long_x h.long_y)

  -- after any frame those after the fade are
  quiet_tail : drop c.fs.fade (quieted c d samples).1 ≡ drop c.fs.fade samples
  unfolding accepted filtered transition_of new_filter
  quiet_tail = go d.registers.marks.ltpf_active_prev refl
    where
      go : (p : Bool) → d.registers.marks.ltpf_active_prev ≡ p → drop c.fs.fade (quieted c d samples).1 ≡ drop c.fs.fade samples
      go false p = rw (quiet_copy p)
      go true p =
          let h = held c d s in
          rw p (deactivated_copies (kept_filter c.fs d.registers.marks d.kept) (no_filter c.fs.l_den) c.fs.fade c.history (past_x c d) (past_y c d) samples h.long_x h.long_y)

-- the last so many samples of two states are alike
record Near (c : Lc3Config) (a b : Decoder) (last : ℕ) : Type 0 where
  left : FitState c a
  right : FitState c b
  inputs : Alike (c.history - last) (past_x c a) (past_x c b)
  outputs : Alike (c.history - last) (past_y c a) (past_y c b)

-- frames that are equal from some place on, after pasts of one length
after_alike : (n m : ℕ) (p q f g : List Float) → length p ≡ n → length q ≡ n → length f ≡ length g → drop m f ≡ drop m g → Alike (n + m) (p ++ f) (q ++ g)
after_alike n m p q f g ep eq long e =
    record {
      long = simp length-append (omega arith);
      rest = rw (← drop-drop m n (p ++ f), ← drop-drop m n (q ++ g), drop_at p f n ep, drop_at q g n eq, e);
    }

module _ (c : Lc3Config) (a b : Decoder) (sa : FitState c a) (sb : FitState c b) (samples : List Float) (count : length samples ≡ c.nf) where
  near_moved : (from last : ℕ) → from - c.nf ≡ c.history - last → Alike from (past_x c a ++ samples) (past_x c b ++ samples) →
      Alike from (past_y c a ++ (quieted c a samples).1) (past_y c b ++ (quieted c b samples).1) → Near c (quieted c a samples).0 (quieted c b samples).0 last
  near_moved from last e x y =
      record {
        left = quieted_fit c a sa samples count;
        right = quieted_fit c b sb samples count;
        inputs = rw (past_x_next sa (quiet_frame c samples count), past_x_next sb (quiet_frame c samples count), ← e) (drop_alike c.nf from _ _ x);
        outputs = rw (past_y_next sa (quiet_frame c samples count), past_y_next sb (quiet_frame c samples count), ← e) (drop_alike c.nf from _ _ y);
      }

  -- one inactive frame makes its samples after the fade alike
  near_first : Near c (quieted c a samples).0 (quieted c b samples).0 (c.nf - c.fs.fade)
  near_first =
      let ha = held c a sa in
      let hb = held c b sb in
      let z = ha.sizes in
      let fade = c.fs.fade in
      near_moved (c.history + fade) (c.nf - fade) (omega (arith, ha.block_within))
      (after_alike c.history fade (past_x c a) (past_x c b) samples samples ha.long_x hb.long_x refl refl)
      (after_alike c.history fade (past_y c a) (past_y c b) _ _ ha.long_y hb.long_y
      (quiet_long c a sa samples count ∙ sym (quiet_long c b sb samples count)) (quiet_tail c a sa samples count ∙ sym (quiet_tail c b sb samples count)))

  -- and each further one adds a whole frame
  near_next : (last : ℕ) → a.registers.marks.ltpf_active_prev ≡ false → b.registers.marks.ltpf_active_prev ≡ false →
      Alike (c.history - last) (past_x c a) (past_x c b) → Alike (c.history - last) (past_y c a) (past_y c b) →
      Near c (quieted c a samples).0 (quieted c b samples).0 (last + c.nf)
  near_next last pa pb x y =
      let ha = held c a sa in
      let same : (quieted c a samples).1 ≡ (quieted c b samples).1 = quiet_copy c a sa samples count pa ∙ sym (quiet_copy c b sb samples count pb) in
      near_moved (c.history - last) (last + c.nf) (omega arith)
      (append_alike (c.history - last) (past_x c a) (past_x c b) samples samples (omega (arith, ha.long_x)) x refl)
      (append_alike (c.history - last) (past_y c a) (past_y c b) _ _ (omega (arith, ha.long_y)) y same)

-- an inactive frame is remembered as such
pub quieted_inactive : (c : Lc3Config) (d : Decoder) (samples : List Float) → (quieted c d samples).0.registers.marks.ltpf_active_prev ≡ false
unfolding accepted next_marks
quieted_inactive c d samples = refl

module _ (c : Lc3Config) (a b : Decoder) (sa : FitState c a) (sb : FitState c b) where
  near_quiet : (s : List Float) (earlier : List (List Float)) → AllLong c.nf (s ∷ earlier) →
      Near c (quiet_all c a (s ∷ earlier)) (quiet_all c b (s ∷ earlier)) (length earlier * c.nf + (c.nf - c.fs.fade))
  near_quiet s [] l = let e : 0 * c.nf + (c.nf - c.fs.fade) ≡ c.nf - c.fs.fade = omega arith in rw e (near_first c a b sa sb s l.0)
  near_quiet s (t ∷ earlier) l =
      let n = near_quiet t earlier l.1 in
      let e : suc (length earlier) * c.nf + (c.nf - c.fs.fade) ≡ length earlier * c.nf + (c.nf - c.fs.fade) + c.nf =
      rw suc-mul (omega arith) in
      rw e (near_next c _ _ n.left n.right s l.0 _
      (quieted_inactive c (quiet_all c a earlier) t) (quieted_inactive c (quiet_all c b earlier) t) n.inputs n.outputs)

-- the limit's number of inactive frames makes two states agree
pub agree_quiet : (c : Lc3Config) (a b : Decoder) → FitState c a → FitState c b → (ss : List (List Float)) → AllLong c.nf ss →
    length ss ≡ settled_limit → Agree c (quiet_all c a ss) (quiet_all c b ss)
unfolding accepted next_marks
agree_quiet c a b sa sb [] l many = absurd (omega arith)
agree_quiet c a b sa sb (s ∷ earlier) l many =
    let n = near_quiet c a b sa sb s earlier l in
    let ra = at_limit c a (s ∷ earlier) many n.left in
    let rb = at_limit c b (s ∷ earlier) many n.right in
    let k = (held c a sa).from in
    let z = sized c k in
    let w = reach_within c k in
    let all : settled_limit * c.nf ≡ length earlier * c.nf + c.nf = rw (← many) (suc-mul (length earlier) c.nf) in
    let far : reach c.fs ≤ length earlier * c.nf + (c.nf - c.fs.fade) = omega (arith, limit_enough c k) in
    record {
      left = n.left;
      right = n.right;
      previous = refl;
      kept = refl;
      lag = refl;
      run = ra.0 ∙ sym rb.0;
      settled = ra.1 ∙ sym rb.1;
      inputs = alike_later _ (oldest c) _ _ (omega arith) n.inputs;
      outputs = alike_later _ (oldest c) _ _ (omega arith) n.outputs;
    }
