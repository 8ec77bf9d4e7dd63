-- An engine that holds the state of another: calls one after the other leave in it what they leave in that state, and reply what they reply there,
-- if each call does.
use mathlib.Core.Path.{◌≡◌, refl, sym, ◌∙◌, ap}
use mathlib.Core.List.{List, [], ◌∷◌, map, map-append}
use Rattle.call_laws.specs.Engine.{Engine, after_all, each, some}

module _ {Outer Inner Call Shown Reply : Type 0} (outer : Engine Outer Call Shown) (inner : Engine Inner Call Reply) (read : Outer → Inner)
    (one : (o : Outer) (c : Call) → read (outer.after o c) ≡ inner.after (read o) c) where
  pub all_kept : (o : Outer) (calls : List Call) → read (after_all outer o calls) ≡ after_all inner (read o) calls
  all_kept o [] = refl
  all_kept o (c ∷ earlier) = one (after_all outer o earlier) c ∙ ap (λ (s : Inner). inner.after s c) (all_kept o earlier)

  -- what is said of each call is what is said of it inside, as it is shown
  module _ {A B : Type 0} (show : B → A) where
    pub each_shown : (say : Outer → Call → A) (within : Inner → Call → B) → ((o : Outer) (c : Call) → say o c ≡ show (within (read o) c)) →
        (o : Outer) (calls : List Call) → each outer say o calls ≡ map show (each inner within (read o) calls)
    each_shown say within same o [] = refl
    each_shown say within same o (c ∷ earlier) = rw (same (after_all outer o earlier) c, all_kept o earlier, each_shown say within same o earlier)

    pub some_shown : (say : Outer → Call → List A) (within : Inner → Call → List B) → ((o : Outer) (c : Call) → say o c ≡ map show (within (read o) c)) →
        (o : Outer) (calls : List Call) → some outer say o calls ≡ map show (some inner within (read o) calls)
    some_shown say within same o [] = refl
    some_shown say within same o (c ∷ earlier) =
        rw (same (after_all outer o earlier) c, all_kept o earlier, some_shown say within same o earlier)
        (sym (map-append show (within (after_all inner (read o) earlier) c) (some inner within (read o) earlier)))
