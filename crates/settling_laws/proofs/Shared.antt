-- Frames that two decoders are both given: they are the same events to both, and make them agree once the limit's number of inactive ones in a row is among them.
use Prim.Native.Nat.{ℕ, zero, suc, ◌≤◌}
use mathlib.Core.Path.{◌≡◌, refl, sym, ◌∙◌, ap}
use mathlib.Core.Bool.{Bool, true, false, cond}
use mathlib.Core.List.{List, [], ◌∷◌, ◌++◌, map}
use native.Mathlib.Omega.{arith}
use borrow.Author.Tests.{leb-true, leb-false}
use lib.Dec.{leb}
use lib.ListN.{length}
use Rattle.call_laws.proofs.Both as both
use Rattle.rates.specs.declared.config.Lc3Config.{Lc3Config}
use Rattle.control.specs.State.{settled_limit}
use Rattle.judging.specs.Pitch.{is_active}
use Rattle.judging.proofs.Judging.{declined, passed}
use Rattle.decoder.specs.declared.state.Decoder.{Decoder}
use Rattle.settling_laws.specs.Calls.{Given, Call, frame, decoder_with, frames, after_all, Event, restart, quiet, active, refusal, event, events, since, row, longest, still, heard, FitState}
use Rattle.settling_laws.proofs.Judging.{OutcomeOf, outcome_of, happened, event_judged}
use Rattle.settling_laws.proofs.FitStates.{frames_fit}
use Rattle.settling_laws.proofs.Agreeing.{Agree, agree_frames}
use Rattle.settling_laws.proofs.Agreement.{settled_alike}

-- what frames were: no restarts, and the same for every fit state
abbrev pub happenings : Lc3Config → List Given → List Event
happenings c [] = []
happenings c (f ∷ earlier) = happened c f (outcome_of c f) ∷ happenings c earlier

pub events_happen : (c : Lc3Config) (d : Decoder) → FitState c d → (fs : List Given) → events d (map frame fs) ≡ happenings c fs
events_happen c d s [] = refl
events_happen c d s (f ∷ earlier) = rw (event_judged c f (after_all d (map frame earlier)) (frames_fit c d s earlier), events_happen c d s earlier)

happened_since : (c : Lc3Config) (f : Given) (o : OutcomeOf c f) (es : List Event) → since (happened c f o ∷ es) ≡ happened c f o ∷ since es
happened_since c f (declined why l h) es = refl
happened_since c f (passed lag p) es = go (is_active f.side.pitch)
  where
    go : (b : Bool) → since (cond b active (quiet f.samples) ∷ es) ≡ cond b active (quiet f.samples) ∷ since es
    go true = refl
    go false = refl

pub since_frames : (c : Lc3Config) (fs : List Given) (es : List Event) → since es ≡ [] → since (happenings c fs ++ es) ≡ happenings c fs
since_frames c [] es e = e
since_frames c (f ∷ earlier) es e = happened_since c f (outcome_of c f) (happenings c earlier ++ es) ∙ rw (since_frames c earlier es e)

-- calls after calls
pub after_both : (d : Decoder) (late early : List Call) → after_all d (late ++ early) ≡ after_all (after_all d early) late
after_both = both.after_both (decoder_with frames)

pub events_both : (d : Decoder) (late early : List Call) → events d (late ++ early) ≡ events (after_all d early) late ++ events d early
events_both = both.each_both (decoder_with frames) event

-- a row of n inactive frames up to the latest: the frames that hold just those, and the frames before
record Window (c : Lc3Config) (n : ℕ) (fs : List Given) : Type 0 where
  late : List Given
  early : List Given
  split : fs ≡ late ++ early
  quiet_only : still (happenings c late) ≡ true
  many : length (heard (happenings c late)) ≡ n

longer : (c : Lc3Config) (n : ℕ) (f : Given) (earlier : List Given) (e : Event) → happened c f (outcome_of c f) ≡ e →
    suc n ≤ row (e ∷ happenings c earlier) → (n ≤ row (happenings c earlier) → Window c n earlier) →
    (suc n ≤ row (happenings c earlier) → Window c (suc n) earlier) → Window c (suc n) (f ∷ earlier)
longer c n f earlier restart p h less same = absurd (omega arith)
longer c n f earlier active p h less same = absurd (omega arith)
longer c n f earlier (quiet s) p h less same =
    let w = less (omega arith) in
    record { late = f ∷ w.late; early = w.early; split = ap (λ (l : List Given). f ∷ l) w.split; quiet_only = rw p w.quiet_only; many = rw p (ap suc w.many) }
longer c n f earlier refusal p h less same =
    let w = same h in
    record { late = f ∷ w.late; early = w.early; split = ap (λ (l : List Given). f ∷ l) w.split; quiet_only = rw p w.quiet_only; many = rw p w.many }

window : (c : Lc3Config) (n : ℕ) (fs : List Given) → n ≤ row (happenings c fs) → Window c n fs
window c zero fs h = record { late = []; early = fs; split = refl; quiet_only = refl; many = refl }
window c (suc n) [] h = absurd (omega arith)
window c (suc n) (f ∷ earlier) h = longer c n f earlier (happened c f (outcome_of c f)) refl h (window c n earlier) (window c (suc n) earlier)

map_both : (late early : List Given) → map frame (late ++ early) ≡ map frame late ++ map frame early
map_both [] early = refl
map_both (f ∷ late) early = rw (map_both late early)

-- frames that hold the limit's number of inactive ones in a row make two states agree
module _ (c : Lc3Config) (a b : Decoder) (sa : FitState c a) (sb : FitState c b) where
  agree_window : (fs : List Given) → Window c settled_limit fs → Agree c (after_all a (map frame fs)) (after_all b (map frame fs))
  agree_window fs w =
      let early = map frame w.early in
      let late = map frame w.late in
      let fa = frames_fit c a sa w.early in
      let fb = frames_fit c b sb w.early in
      let ea = events_happen c (after_all a early) fa w.late in
      let eb = events_happen c (after_all b early) fb w.late in
      let all : map frame fs ≡ late ++ early = ap (map frame) w.split ∙ map_both w.late w.early in
      rw (all, after_both a late early, after_both b late early)
      (settled_alike c (after_all a early) (after_all b early) fa fb late late
      (record {
        left = rw ea w.quiet_only;
        right = rw eb w.quiet_only;
        same = ap heard (ea ∙ sym eb);
        many = rw ea w.many;
      }))

  pub agree_shared : (fs : List Given) → settled_limit ≤ longest (happenings c fs) → Agree c (after_all a (map frame fs)) (after_all b (map frame fs))
  agree_shared [] h = absurd (omega arith)
  agree_shared (f ∷ earlier) h = go (leb settled_limit (longest (happenings c earlier))) refl (agree_shared earlier)
    where
      go : (t : Bool) → leb settled_limit (longest (happenings c earlier)) ≡ t →
          (settled_limit ≤ longest (happenings c earlier) → Agree c (after_all a (map frame earlier)) (after_all b (map frame earlier))) →
          Agree c (after_all a (map frame (f ∷ earlier))) (after_all b (map frame (f ∷ earlier)))
      go true p before =
          agree_frames c (after_all a (map frame earlier)) (after_all b (map frame earlier)) (before (leb-true settled_limit (longest (happenings c earlier)) p)) (f ∷ [])
      go false p before = agree_window (f ∷ earlier) (window c settled_limit (f ∷ earlier) (omega (arith, leb-false settled_limit (longest (happenings c earlier)) p)))
