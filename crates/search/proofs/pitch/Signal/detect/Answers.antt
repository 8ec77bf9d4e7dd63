-- `detect` puts the two candidates together.
use Prim.Native.Nat.{ℕ, ◌-◌, ◌≤◌}
use mathlib.Core.Path.{◌≡◌, refl, ◌∙◌}
use mathlib.Core.List.{List}
use mathlib.Core.Bool.{Bool, true, false, cond}
use lib.Ieee.{Float, binary32, lt, of_bits, round}
use Rattle.floats.specs.Single.{◌⊗◌, decimal, at}
use Rattle.search.specs.Pitch.{correlations, lag1, lag2, normalised, candidate_at, root_at, over_root, detected, with_presence, chosen}
use Rattle.search.specs.declared.pitch.Candidate.{Candidate}
use Rattle.search.proofs.Pitches.{correlations_at}
use Rattle.search.proofs.pitch.Signal.detect.Goals as goal

-- a candidate as the code makes it, from the correlations that it keeps
abbrev made : List Float → List Float → ℕ → ℕ → Candidate
made x r len t = record { lag = t; correlation = at r (t - 17); root = root_at x len t; normcorr = over_root (at r (t - 17)) (root_at x len t) }

is_candidate : (x r : List Float) (len t : ℕ) → r ≡ correlations x len → (17 ≤ t) × (t ≤ 114) → made x r len t ≡ candidate_at x len t
unfolding normalised
is_candidate x r len t e w = rw (e, correlations_at x len t w.0 w.1)

-- the choice in the code's constant
second_wins : (a b : Candidate) → lt (of_bits binary32 1062836634 ⊗ a.normcorr) b.normcorr ≡ true → with_presence b ≡ chosen a b
unfolding chosen of_bits round
second_wins a b h = rw h

first_stays : (a b : Candidate) → lt (of_bits binary32 1062836634 ⊗ a.normcorr) b.normcorr ≡ false → with_presence a ≡ chosen a b
unfolding chosen of_bits round
first_stays a b h = rw h

-- one lag, either way
either : (a : Candidate) → with_presence a ≡ chosen a a
unfolding chosen
either a = go (lt (decimal 85 2 ⊗ a.normcorr) a.normcorr)
  where
    go : (w : Bool) → with_presence a ≡ cond w (with_presence a) (with_presence a)
    go true = refl
    go false = refl

-- the choice between the two candidates is what the definition finds
chosen_found : (x r : List Float) (len previous t1 t2 : ℕ) (first second : Candidate) → r ≡ correlations x len →
    (17 ≤ t1) × (t1 ≤ 114) → (17 ≤ t2) × (t2 ≤ 114) → t1 ≡ lag1 r → t2 ≡ lag2 r previous → first ≡ made x r len t1 → second ≡ made x r len t2 → chosen first second ≡ detected x len previous
unfolding detected
chosen_found x r len previous t1 t2 first second e g h f1 f2 m1 m2 =
    rw (
      m1 ∙ is_candidate x r len t1 e g,
      m2 ∙ is_candidate x r len t2 e h,
      f1,
      f2,
      e,
    )

pub returns-then-t1-t2 : goal.returns-then-t1-t2
returns-then-t1-t2 c =
    let a = c.args in
    c.with_presence.ensures ∙ either _
    ∙ chosen_found a.self.x_6p4.now _ a.self.len6p4 a.t_prev _ _ _ _ c.correlations-r_6p4.ensures c.lag_t1-t1.ensures.range c.lag_t1-t1.ensures.range c.lag_t1-t1.ensures.lag (c.if-t1-t2.true ∙ c.lag_t2-t2.ensures.lag)
    c.candidate_at-first.ensures c.candidate_at-first.ensures

pub returns-then-second-first : goal.returns-then-second-first
returns-then-second-first c =
    let a = c.args in
    c.with_presence-then-second-first.ensures ∙ second_wins _ _ c.if-second-first.true
    ∙ chosen_found a.self.x_6p4.now _ a.self.len6p4 a.t_prev _ _ _ _ c.correlations-r_6p4.ensures c.lag_t1-t1.ensures.range c.lag_t2-t2.ensures.range c.lag_t1-t1.ensures.lag c.lag_t2-t2.ensures.lag
    c.candidate_at-first.ensures c.candidate_at-second.ensures

pub returns : goal.returns
returns c =
    let a = c.args in
    c.with_presence-2.ensures ∙ first_stays _ _ c.if-second-first.false
    ∙ chosen_found a.self.x_6p4.now _ a.self.len6p4 a.t_prev _ _ _ _ c.correlations-r_6p4.ensures c.lag_t1-t1.ensures.range c.lag_t2-t2.ensures.range c.lag_t1-t1.ensures.lag c.lag_t2-t2.ensures.lag
    c.candidate_at-first.ensures c.candidate_at-second.ensures
