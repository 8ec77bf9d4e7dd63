-- TOGETHER, when a headset is back with the others. Two theorems about decoders from a start, each with any calls after it.
-- `together`: A decoder has just been started or has just had a loss mark. From here on it is given the same frames as another decoder of its
-- rate and duration. As soon as it reports itself settled, the other is settled too, and from then on every frame gives the same answer,
-- report and sample bits in both.
-- `together_since_settling`: Two decoders of one rate and duration have accepted the limit's number of inactive frames in a row, with the
-- same samples. Then both are settled, and every later frame that is given to both gives the same answer, report and sample bits.
use Prim.Native.Nat.{ℕ, ◌≤◌}
use mathlib.Core.Path.{◌≡◌, sym, ◌∙◌, ap}
use mathlib.Core.Bool.{true}
use mathlib.Core.List.{List, [], ◌∷◌, ◌++◌, map}
use native.Mathlib.Omega.{arith}
use borrow.Author.Tests.{leb-true, le-leb}
use lib.ListN.{length}
use Rattle.rates.specs.declared.config.Lc3Config.{Lc3Config}
use Rattle.control.specs.State.{settled_limit}
use Rattle.decoder.specs.State.{started}
use Rattle.decoder.specs.declared.state.Decoder.{Decoder}
use Rattle.settling_laws.specs.Calls.{Given, Call, frame, after_all, from_start, replies, Event, restart, quiet, active, refusal, events, events_from, since, row, longest, still, heard, FitState, SettleAlike}
use Rattle.settling_laws.proofs.Counting.{row_longest}
use Rattle.settling_laws.proofs.SettledExactly.{always_fit, marked_exactly}
use Rattle.settling_laws.proofs.Agreeing.{Agree, same_replies}
use Rattle.settling_laws.proofs.Agreement.{same_config, agreement}
use Rattle.settling_laws.proofs.Shared.{happenings, events_happen, since_frames, after_both, events_both, agree_shared}

-- a row of inactive frames is counted, whatever was before
heard_row : (late early : List Event) → still late ≡ true → length (heard late) ≤ row (since (late ++ early))
heard_row [] early q = omega arith
heard_row (restart ∷ late) early q = cc
heard_row (quiet s ∷ late) early q = omega (arith, heard_row late early q)
heard_row (active ∷ late) early q = cc
heard_row (refusal ∷ late) early q = heard_row late early q

-- what the report says of frames since a restart, and of a row of inactive frames
module _ (rate duration : ℕ) (before : List Call) where
  reported_frames : (c : Lc3Config) → FitState c (from_start rate duration before) → since (events_from rate duration before) ≡ [] → (fs : List Given) →
      (after_all (from_start rate duration before) (map frame fs)).registers.marks.settled ≡ true → settled_limit ≤ longest (happenings c fs)
  reported_frames c s anew fs settled =
      let d = from_start rate duration before in
      let state = after_both (started rate duration).decoder (map frame fs) before in
      let mark = marked_exactly rate duration (map frame fs ++ before) in
      let all : since (events_from rate duration (map frame fs ++ before)) ≡ happenings c fs =
      rw (events_both (started rate duration).decoder (map frame fs) before, events_happen c d s fs)
      (since_frames c fs (events_from rate duration before) anew) in
      leb-true settled_limit (longest (happenings c fs)) (sym (rw all at mark) ∙ rw state settled)

  reported_row : (calls : List Call) →
      still (events (from_start rate duration before) calls) ≡ true →
      length (heard (events (from_start rate duration before) calls)) ≡ settled_limit →
      (after_all (from_start rate duration before) calls).registers.marks.settled ≡ true
  reported_row calls q many =
      let d = from_start rate duration before in
      let was = events_from rate duration (calls ++ before) in
      let state = after_both (started rate duration).decoder calls before in
      let heard_all : length (heard (events d calls)) ≤ row (since was) =
      rw (events_both (started rate duration).decoder calls before) (heard_row (events d calls) (events_from rate duration before) q) in
      ap (λ (e : Decoder). e.registers.marks.settled) (sym state) ∙ marked_exactly rate duration (calls ++ before)
      ∙ le-leb settled_limit (longest (since was)) (omega (arith, row_longest (since was)))

-- decoders from a start, each with calls of its own, of one rate and duration
module _ (rate-a duration-a rate-b duration-b : ℕ) (before-a before-b : List Call)
    (rates : (from_start rate-a duration-a before-a).registers.marks.rate ≡ (from_start rate-b duration-b before-b).registers.marks.rate)
    (durations : (from_start rate-a duration-a before-a).registers.marks.duration ≡ (from_start rate-b duration-b before-b).registers.marks.duration) where
  -- they agree once the one that was just restarted is settled
  pub agreed : since (events_from rate-b duration-b before-b) ≡ [] → (shared : List Given) →
      (after_all (from_start rate-b duration-b before-b) (map frame shared)).registers.marks.settled ≡ true →
      Agree (always_fit rate-a duration-a before-a).0 (after_all (from_start rate-a duration-a before-a) (map frame shared))
      (after_all (from_start rate-b duration-b before-b) (map frame shared))
  agreed anew shared settled =
      let a = from_start rate-a duration-a before-a in
      let b = from_start rate-b duration-b before-b in
      let fa = always_fit rate-a duration-a before-a in
      let sb = same_config a b fa (always_fit rate-b duration-b before-b) rates durations in
      agree_shared fa.0 a b fa.1 sb shared (reported_frames rate-b duration-b before-b fa.0 sb anew shared settled)

  pub together : since (events_from rate-b duration-b before-b) ≡ [] → (shared : List Given) →
      (after_all (from_start rate-b duration-b before-b) (map frame shared)).registers.marks.settled ≡ true →
      ((after_all (from_start rate-a duration-a before-a) (map frame shared)).registers.marks.settled ≡ true) ×
      ((later : List Given) → replies (after_all (from_start rate-a duration-a before-a) (map frame shared)) (map frame later) ≡
      replies (after_all (from_start rate-b duration-b before-b) (map frame shared)) (map frame later))
  together anew shared settled = let g = agreed anew shared settled in (g.settled ∙ settled, same_replies _ _ _ g)

  pub together_since_settling : (calls-a calls-b : List Call) →
      SettleAlike (from_start rate-a duration-a before-a) (from_start rate-b duration-b before-b) calls-a calls-b →
      ((after_all (from_start rate-a duration-a before-a) calls-a).registers.marks.settled ≡ true) ×
      ((after_all (from_start rate-b duration-b before-b) calls-b).registers.marks.settled ≡ true) ×
      ((later : List Given) → replies (after_all (from_start rate-a duration-a before-a) calls-a) (map frame later) ≡
      replies (after_all (from_start rate-b duration-b before-b) calls-b) (map frame later))
  together_since_settling calls-a calls-b q =
      let fa = always_fit rate-a duration-a before-a in
      let fb = always_fit rate-b duration-b before-b in
      let many-b = ap length (sym q.same) ∙ q.many in (
        reported_row rate-a duration-a before-a calls-a q.left q.many,
        reported_row rate-b duration-b before-b calls-b q.right many-b,
        agreement (from_start rate-a duration-a before-a) (from_start rate-b duration-b before-b) fa fb rates durations calls-a calls-b q,
      )
