-- THE REPORT. From a start, after every list of starts, frames and loss marks, accepted or refused:
-- `always_fit`: the state is fit. So answer 9 is never given: `never_unfit_answer`.
-- `settled_exactly`: the decoder reports itself settled exactly where, since the last start (a refused one counts) or loss mark, the limit's
-- number of accepted inactive frames in a row has been reached. `run_within_limit`: its run never exceeds the limit.
use Prim.Native.Nat.{ℕ, ◌≤◌}
use mathlib.Core.Path.{◌≡◌, ◌∙◌}
use mathlib.Core.List.{List, ◌∷◌}
use native.Mathlib.Omega.{arith}
use Rattle.rates.specs.Answers.{number_of}
use Rattle.control.specs.State.{settled_limit}
use Rattle.settling_laws.specs.Calls.{Call, reply, from_start, events_from, settled_by, Fit}
use Rattle.settling_laws.proofs.Following.{followed, reports_mark, answer_small}

module _ (rate duration : ℕ) where
  pub always_fit : (calls : List Call) → Fit (from_start rate duration calls)
  always_fit calls = let k = followed rate duration calls in (k.config, k.fit)

  pub never_unfit_answer : (c : Call) (earlier : List Call) → number_of (reply (from_start rate duration earlier) c).answer ≡ 9 → ⊥
  never_unfit_answer c earlier e =
      let k = followed rate duration earlier in omega (arith, answer_small k.config (from_start rate duration earlier) k.fit c)

  pub run_within_limit : (calls : List Call) → (from_start rate duration calls).registers.marks.run ≤ settled_limit
  run_within_limit calls = omega (arith, (followed rate duration calls).counted.run)

  -- the mark in the state
  pub marked_exactly : (calls : List Call) →
      (from_start rate duration calls).registers.marks.settled ≡ settled_by (events_from rate duration calls)
  marked_exactly calls = (followed rate duration calls).counted.settled

  -- the report that a call gives
  pub settled_exactly : (c : Call) (earlier : List Call) →
      (reply (from_start rate duration earlier) c).settled ≡ settled_by (events_from rate duration (c ∷ earlier))
  settled_exactly c earlier =
      let k = followed rate duration earlier in reports_mark k.config (from_start rate duration earlier) k.fit c ∙ marked_exactly (c ∷ earlier)
