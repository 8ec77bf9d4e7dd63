-- An engine in a state, and in the same state renamed: calls one after the other reply the same, and leave in the second what they leave in the first,
-- renamed, if each call does wherever something holds that it keeps.
use mathlib.Core.Path.{◌≡◌, refl, sym, ◌∙◌, ap}
use mathlib.Core.Bool.{Bool, true, false, cond, true≢false}
use mathlib.Core.List.{List, [], ◌∷◌}
use Rattle.call_laws.specs.Engine.{Engine, after_all, replies, all_of}

module _ {State Call Reply : Type 0} (e : Engine State Call Reply) (rename : State → State) (Holds : State → Type 0) where
  -- of one call
  pub record Alike (s : State) (c : Call) : Type 0 where
    pub holds : Holds (e.after s c)
    pub state : e.after (rename s) c ≡ rename (e.after s c)
    pub given_back : e.reply (rename s) c ≡ e.reply s c

  -- of all of them
  pub record AllAlike (s : State) (calls : List Call) : Type 0 where
    pub holds : Holds (after_all e s calls)
    pub state : after_all e (rename s) calls ≡ rename (after_all e s calls)
    pub given_back : replies e (rename s) calls ≡ replies e s calls

  one_more : (s : State) (c : Call) (earlier : List Call) → AllAlike s earlier → Alike (after_all e s earlier) c → AllAlike s (c ∷ earlier)
  one_more s c earlier before now = record {
    holds = now.holds;
    state = ap (λ (t : State). e.after t c) before.state ∙ now.state;
    given_back =
        ap (λ (t : State). e.reply t c ∷ replies e (rename s) earlier) before.state ∙
        ap (λ (r : Reply). r ∷ replies e (rename s) earlier) now.given_back ∙
        ap (λ (rs : List Reply). e.reply (after_all e s earlier) c ∷ rs) before.given_back;
  }

  -- where each call that is such a one does
  pub all_renamed : (is : Call → Bool) → ((s : State) (c : Call) → is c ≡ true → Holds s → Alike s c) →
      (s : State) → Holds s → (calls : List Call) → all_of e is calls ≡ true → AllAlike s calls
  all_renamed is one s h [] q = record { holds = h; state = refl; given_back = refl }
  all_renamed is one s h (c ∷ earlier) q = go (is c) refl q (λ r. all_renamed is one s h earlier r)
    where
      go : (b : Bool) → is c ≡ b → cond b (all_of e is earlier) false ≡ true → (all_of e is earlier ≡ true → AllAlike s earlier) → AllAlike s (c ∷ earlier)
      go false p r before = absurd (true≢false (sym r))
      go true p r before = one_more s c earlier (before r) (one (after_all e s earlier) c p (before r).holds)
