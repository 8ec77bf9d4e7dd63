-- The decoder's own count of inactive frames, and its settled mark, against the list of what its calls were.
use Prim.Native.Nat.{ℕ, ◌+◌, ◌≤◌, min, max}
use mathlib.Core.Path.{◌≡◌, refl, ◌∙◌}
use mathlib.Core.Bool.{Bool, true, false, cond, ◌||◌, or-false, not, ◌&&◌}
use mathlib.Core.List.{List, [], ◌∷◌}
use native.Mathlib.Omega.{arith}
use borrow.Author.Tests.{leb-true, leb-false, eq-eqb}
use lib.Dec.{leb, ltb}
use lib.Ieee.{Float}
use lib.ListN.{length}
use Rattle.rates.specs.declared.config.Lc3Config.{Lc3Config}
use Rattle.rates.proofs.Known.{both}
use Rattle.control.specs.State.{settled_limit, run_fits}
use Rattle.control.specs.Next.{next_marks}
use Rattle.control.proofs.Fit.{run_within}
use Rattle.judging.proofs.Judging.{declined, passed}
use Rattle.control.proofs.MarksAfter.{settles_exactly}
use Rattle.decoder.specs.Frame.{accepted}
use Rattle.decoder.specs.declared.state.Decoder.{Decoder}
use Rattle.settling_laws.specs.Calls.{Given, Event, restart, quiet, active, refusal, since, row, longest, FitState}
use Rattle.settling_laws.proofs.Held.{held}
use Rattle.settling_laws.proofs.Admitted.{Admitted, admit}
use Rattle.settling_laws.proofs.Judging.{OutcomeOf, framed_on, admitted, happened}
use Rattle.settling_laws.proofs.Hearing.{quiet_all}

row_since : (es : List Event) → row (since es) ≡ row es
row_since [] = refl
row_since (restart ∷ es) = refl
row_since (quiet s ∷ es) = rw (row_since es)
row_since (active ∷ es) = refl
row_since (refusal ∷ es) = row_since es

pub row_longest : (es : List Event) → row es ≤ longest es
row_longest [] = omega arith
row_longest (e ∷ es) = omega arith

-- one more in a row reaches the limit, or it had been reached
reached_more : (limit r l run : ℕ) → run ≡ min r limit → (leb limit l || leb limit (run + 1)) ≡ leb limit (max (r + 1) l)
reached_more limit r l run e = go (leb limit l) (leb limit (run + 1)) (leb limit (max (r + 1) l)) refl refl refl
  where
    go : (a b c : Bool) → leb limit l ≡ a → leb limit (run + 1) ≡ b → leb limit (max (r + 1) l) ≡ c → (a || b) ≡ c
    go true b true p q o = refl
    go true b false p q o = absurd (omega (arith, leb-true limit l p, leb-false limit (max (r + 1) l) o))
    go false true true p q o = refl
    go false true false p q o = absurd (omega (arith, leb-true limit (run + 1) q, leb-false limit (max (r + 1) l) o))
    go false false true p q o = absurd (omega (arith, leb-false limit l p, leb-false limit (run + 1) q, leb-true limit (max (r + 1) l) o))
    go false false false p q o = refl

-- the run is the present row, up to the limit, and settled says that the longest has reached it
pub record Counted (d : Decoder) (es : List Event) : Type 0 where
  pub run : d.registers.marks.run ≡ min (row es) settled_limit
  pub settled : d.registers.marks.settled ≡ leb settled_limit (longest (since es))

-- after a restart, and after a start with no call since
pub counted_anew : (d : Decoder) (es : List Event) → d.registers.marks.run ≡ 0 → d.registers.marks.settled ≡ false → since es ≡ [] → Counted d es
counted_anew d es r s e =
    let none : row es ≡ 0 = rw (← row_since es, e) in
    record { run = omega arith; settled = rw (s, e) }

-- the mark after an accepted frame
marked : {c : Lc3Config} (d : Decoder) (f : Admitted c) →
    (admit d f).0.registers.marks.settled ≡ (d.registers.marks.settled || (not f.active && leb settled_limit (d.registers.marks.run + 1)))
unfolding accepted
marked d f = settles_exactly d.registers.marks f.active f.lag

counted_admitted : {c : Lc3Config} (d : Decoder) (es : List Event) → Counted d es → (f : Admitted c) (is-active : Bool) → f.active ≡ is-active →
    Counted (admit d f).0 (cond is-active active (quiet f.samples) ∷ es)
unfolding accepted next_marks
counted_admitted d es k f true p =
    let same : max 0 (longest (since es)) ≡ longest (since es) = omega arith in
    record { run = rw p (omega arith); settled = marked d f ∙ rw (p, or-false, same) k.settled }
counted_admitted d es k f false p =
    record {
      run = rw p (omega (arith, k.run));
      settled = marked d f ∙ rw (p, k.settled, row_since es) (reached_more settled_limit (row es) (longest (since es)) d.registers.marks.run k.run);
    }

pub counted_judged : (c : Lc3Config) (f : Given) (d : Decoder) (es : List Event) → Counted d es → (o : OutcomeOf c f) →
    Counted (framed_on c f d o).0.decoder (happened c f o ∷ es)
counted_judged c f d es k (declined why l h) =
    let same : max (row (since es)) (longest (since es)) ≡ longest (since es) = omega (arith, row_longest (since es)) in
    record { run = k.run; settled = rw same k.settled }
counted_judged c f d es k (passed lag p) = counted_admitted d es k (admitted c f lag p) (admitted c f lag p).active refl

-- as many inactive frames are counted, up to the limit
run_quiet : (c : Lc3Config) (d : Decoder) (ss : List (List Float)) → min (length ss) settled_limit ≤ (quiet_all c d ss).registers.marks.run
unfolding accepted next_marks
run_quiet c d [] = omega arith
run_quiet c d (s ∷ earlier) = omega (arith, run_quiet c d earlier)

-- a fit run at its limit is settled
settled_at_limit : (p : Bool) (run : ℕ) (settled : Bool) → run_fits p run settled ≡ true → run ≡ settled_limit → settled ≡ true
unfolding run_fits
settled_at_limit p run true h e = refl
settled_at_limit p run false h e = rw (eq-eqb run settled_limit e) at (both (not (p && ltb 0 run) && not (ltb settled_limit run)) _ h).1

-- and the limit's number of them leaves the run at its limit, and settled
pub at_limit : (c : Lc3Config) (d : Decoder) (ss : List (List Float)) → length ss ≡ settled_limit → FitState c (quiet_all c d ss) →
    ((quiet_all c d ss).registers.marks.run ≡ settled_limit) × ((quiet_all c d ss).registers.marks.settled ≡ true)
at_limit c d ss many f =
    let e = (quiet_all c d ss).registers.marks in
    let r = (held c (quiet_all c d ss) f).fitting.run in
    let most = run_within e.ltpf_active_prev e.run e.settled r in
    let run : e.run ≡ settled_limit = omega (arith, run_quiet c d ss) in
    (run, settled_at_limit e.ltpf_active_prev e.run e.settled r run)
