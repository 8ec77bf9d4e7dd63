-- The verdict on a frame: the first refusal in the scope's order, or what the frame is to do.
use Rattle.rates.specs.declared.answer.Refusal.{Refusal}
use Rattle.std.specs.Prelude.{ℕ, ◌+◌, ◌*◌, Bool, true, false, ◌&&◌, List, leb, eqb, Float, length, Option, Some, None, Result, Ok, Err}
use Rattle.floats.specs.Single.{all_finite, all_in_range}
use Rattle.rates.specs.declared.answer.Refusal.TheVariants.{CoefficientCount, CoefficientNotFinite, SampleCount, TooManyBits, IndexTooLarge, SampleOutOfRange}
use Rattle.rates.specs.declared.config.Lc3Config.{Lc3Config}
use Rattle.lag.specs.Gain.{gain_of, bits_of}
use Rattle.lag.specs.declared.rescale.Lag.{Lag}
use Rattle.filter.specs.Transition.{transition_of}
use Rattle.judging.specs.Pitch.{is_active, lag_for}
use Rattle.control.specs.declared.marks.Marks.{Marks}
use Rattle.judging.specs.declared.plan.SideInfo.{SideInfo}
use Rattle.judging.specs.declared.plan.Plan.{Plan}

-- unless a test passes, a refusal
abbrev pub unless : {A : Type 0} → Bool → Refusal → Result A Refusal → Result A Refusal
unless false refusal v = Err refusal
unless true refusal v = v

-- each slice has four rows; one of numerators has l_num + 1 entries, which is one below l_den, and one of denominators l_den + 1
abbrev pub set_counts : ℕ → List Float → List Float → Bool
set_counts l numerators denominators = eqb (length numerators + 4) (4 * l) && eqb (length denominators) (4 * (l + 1))

-- and each entry, used or not, is finite
abbrev pub set_finite : List Float → List Float → Bool
set_finite numerators denominators = all_finite numerators && all_finite denominators

-- what a frame with this lag is to do: whether it is active, its case, and the gain of its bits
abbrev pub plan_of : Marks → Lc3Config → SideInfo → Lag → Plan
plan_of m c side lag = record {
  config = c;
  active = is_active side.pitch;
  lag = lag;
  gain = gain_of c.fs.fs_ind (bits_of c.n_ms side.nbits);
  transition = transition_of m.ltpf_active_prev (is_active side.pitch) m.lag lag;
}

-- 7: a present index above 511 has no lag
abbrev pub lag_judged : Marks → Lc3Config → SideInfo → Option Lag → Result Plan Refusal
lag_judged m c side None = Err IndexTooLarge
lag_judged m c side (Some lag) = Ok (plan_of m c side lag)

-- 6 and 7, which the side information decides
unfoldable pub judged_side : Marks → Lc3Config → SideInfo → Result Plan Refusal
judged_side m c side = unless (leb side.nbits 3200) TooManyBits (lag_judged m c side (lag_for c.fs side.pitch))

-- 8, where nothing else refuses the frame
abbrev pub ranged : Bool → Result Plan Refusal → Result Plan Refusal
ranged inside (Err answer) = Err answer
ranged inside (Ok plan) = unless inside SampleOutOfRange (Ok plan)

-- The verdict on a frame with these samples: 9, which fitness decided; then 3, 4 and 5; then 6 and 7, and last 8. `full` tests the
-- number of samples.
abbrev pub judged_frame : Marks → List Float → List Float → SideInfo → (Lc3Config → Bool) → List Float → Result Lc3Config Refusal → Result Plan Refusal
judged_frame m numerators denominators side full samples (Err answer) = Err answer
judged_frame m numerators denominators side full samples (Ok c) =
    unless (set_counts c.fs.l_den numerators denominators) CoefficientCount
    (unless (set_finite numerators denominators) CoefficientNotFinite
    (unless (full c) SampleCount
    (ranged (all_in_range samples) (judged_side m c side))))

-- the verdict on a frame of one decoder: the samples are to be as many as the configuration's frame
unfoldable pub judged : Marks → Result Lc3Config Refusal → List Float → List Float → SideInfo → List Float → Result Plan Refusal
judged m fitted numerators denominators side samples =
    judged_frame m numerators denominators side (λ c. eqb (length samples) c.nf) samples fitted
