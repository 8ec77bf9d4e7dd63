-- Calls after calls.
use mathlib.Core.Path.{◌≡◌, refl, ap}
use mathlib.Core.List.{List, [], ◌∷◌, ◌++◌}
use Rattle.call_laws.specs.Engine.{Engine, after_all, each}

module _ {State Call Reply : Type 0} (e : Engine State Call Reply) where
  pub after_both : (s : State) (late early : List Call) → after_all e s (late ++ early) ≡ after_all e (after_all e s early) late
  after_both s [] early = refl
  after_both s (c ∷ late) early = ap (λ (t : State). e.after t c) (after_both s late early)

  pub each_both : {A : Type 0} (say : State → Call → A) (s : State) (late early : List Call) →
      each e say s (late ++ early) ≡ each e say (after_all e s early) late ++ each e say s early
  each_both say s [] early = refl
  each_both say s (c ∷ late) early = rw (after_both s late early, each_both say s late early)
