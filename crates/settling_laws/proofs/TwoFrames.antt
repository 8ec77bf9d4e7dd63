-- TWO FRAMES ARE NOT ENOUGH. `two_frames_disagree`: for every rate and duration there are two fit states, and an inactive frame that both accept
-- twice, after which an equal active frame gives both different samples. So `agreement` does not hold with two frames instead of the limit's number.
-- The one state is that of a start. The other's last frame was active with the longest lag, and all of its past outputs are NaNs: the fade of
-- the first inactive frame keeps them, and after the second one a filter of the longest lag still reads one of them.
use Prim.Native.Nat.{ℕ}
use mathlib.Core.Path.{◌≡◌, refl, sym, ◌∙◌, ap, subst}
use mathlib.Core.Bool.{not}
use mathlib.Core.List.{List, [], ◌∷◌}
use lib.Dec.{T}
use lib.Ieee.{Float, nan, add, sub, mul, div, neg, round, of_int, sum, is_nan}
use Rattle.std.proofs.Common.{Some, Ok}
use Rattle.floats.specs.Single.{◌⊖◌, ◌⊗◌, 0·0, at}
use Rattle.rates.specs.Table.{row_of}
use Rattle.rates.specs.Configs.{config_of}
use Rattle.rates.specs.declared.table.Rate.{Rate}
use Rattle.rates.specs.declared.config.Lc3Config.{Lc3Config}
use Rattle.rates.proofs.Rows.{at_row}
use Rattle.lag.specs.declared.pitch.PitchRecord.TheVariants.{Absent}
use Rattle.filter.specs.Fade.{factor}
use Rattle.filter.specs.declared.fade.Direction.TheVariants.{In}
use Rattle.control.specs.State.{cleared_marks}
use Rattle.control.specs.Next.{next_marks}
use Rattle.control.proofs.Sizes.{from_table}
use Rattle.decoder.specs.State.{cleared}
use Rattle.decoder.specs.declared.state.Decoder.{Decoder}
use Rattle.settling_laws.specs.Calls.{Given, frame, after, after_all, reply, quiet, events, FitState, Fit}
use Rattle.settling_laws.proofs.Admitted.{admit}
use Rattle.settling_laws.proofs.Hearing.{quieted}
use Rattle.settling_laws.proofs.Silence.{silence, asked, silent, loud, after_silence, silence_quiet, reply_loud, silent_fit}
use Rattle.settling_laws.proofs.SilentState.{silent_start, silent_next, silent_first}
use Rattle.settling_laws.proofs.NoisyState.{noisy, noisy_fit, noisy_past, noisy_active, noisy_first}

-- a fade of 0.0 begins with a number at every rate
number_first : (hz : ℕ) (fs : Rate) → row_of hz ≡ Some fs → T (not (is_nan (0·0 ⊖ 0·0 ⊗ factor In fs.fade 0)))
unfolding factor sub add neg mul div sum round of_int is_nan
number_first hz fs k = at_row (λ (r : Rate). not (is_nan (0·0 ⊖ 0·0 ⊗ factor In r.fade 0))) tt hz fs k

-- two fit states of a rate and duration, an inactive frame that both accept twice, and a later frame that then gives both different samples
pub record Disagree (rate duration : ℕ) : Type 0 where
  pub left : Decoder
  pub right : Decoder
  pub left_fits : Fit left
  pub right_fits : Fit right
  pub rates : (left.registers.marks.rate ≡ rate) × (right.registers.marks.rate ≡ rate)
  pub durations : (left.registers.marks.duration ≡ duration) × (right.registers.marks.duration ≡ duration)
  pub shared : Given
  pub left_quiet : events left (frame shared ∷ frame shared ∷ []) ≡ quiet shared.samples ∷ quiet shared.samples ∷ []
  pub right_quiet : events right (frame shared ∷ frame shared ∷ []) ≡ quiet shared.samples ∷ quiet shared.samples ∷ []
  pub later : Given
  pub differ : (reply (after_all left (frame shared ∷ frame shared ∷ [])) (frame later)).samples ≡
      (reply (after_all right (frame shared ∷ frame shared ∷ [])) (frame later)).samples → ⊥

-- two silent frames, given to a fit state
module _ (c : Lc3Config) (d : Decoder) (s : FitState c d) where
  after_two : after (after d (frame (silence c Absent))) (frame (silence c Absent)) ≡ (quieted c (quieted c d (silent c)).0 (silent c)).0
  after_two = rw (after_silence c d s) (after_silence c (quieted c d (silent c)).0 (silent_fit c d s))

  events_two : events d (frame (silence c Absent) ∷ frame (silence c Absent) ∷ []) ≡ quiet (silent c) ∷ quiet (silent c) ∷ []
  events_two = rw (after_silence c d s, silence_quiet c d s, silence_quiet c (quieted c d (silent c)).0 (silent_fit c d s))

  reply_two : (reply (after (after d (frame (silence c Absent))) (frame (silence c Absent))) (frame (silence c asked))).samples ≡
      (admit (quieted c (quieted c d (silent c)).0 (silent c)).0 (loud c)).1
  reply_two =
      let one = (quieted c d (silent c)).0 in
      rw after_two (reply_loud c (quieted c one (silent c)).0 (silent_fit c one (silent_fit c d s)))

-- a number is no NaN
number : (v : Float) → T (not (is_nan v)) → v ≡ nan → ⊥
unfolding is_nan
number v t e = subst (λ (w : Float). T (not (is_nan w))) e t

pub two_frames_disagree : (rate duration : ℕ) (c : Lc3Config) → config_of rate duration ≡ Ok c → Disagree rate duration
unfolding cleared cleared_marks next_marks
two_frames_disagree rate duration c e =
    let a = cleared rate duration in
    let b = noisy rate duration c in
    let sa = silent_start rate duration c e in
    let sb = noisy_fit rate duration c e in
    let k = from_table rate duration c e in
    let sa2 = silent_next c _ (silent_next c a sa) in
    record {
      left = a;
      right = b;
      left_fits = (c, sa.fit);
      right_fits = (c, sb);
      rates = (refl, refl);
      durations = (refl, refl);
      shared = silence c Absent;
      left_quiet = events_two c a sa.fit;
      right_quiet = events_two c b sb;
      later = silence c asked;
      differ = λ same. number _ (number_first k.0 c.fs k.1.row)
          (sym (silent_first c _ sa2) ∙ ap (λ (l : List Float). at l 0) (sym (reply_two c a sa.fit) ∙ same ∙ reply_two c b sb)
          ∙ noisy_first c b sb (noisy_active rate duration c) (noisy_past rate duration c));
    }
