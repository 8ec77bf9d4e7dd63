-- The bytes of a listing in two runs: what the machine does to them one after the other is what it does to both as one.
use Prim.Native.Nat.{ℕ, suc, ◌+◌, ◌-◌, ◌≤◌, ◌<◌}
use mathlib.Core.Path.{◌≡◌, refl, sym, ap, ◌∙◌}
use mathlib.Core.Bool.{Bool, true, false, cond, not, and-false}
use mathlib.Core.List.{List, [], ◌∷◌, ◌++◌, append_assoc}
use native.Mathlib.Nat.{zero-add, sub-zero}
use native.Mathlib.Omega.{arith}
use borrow.Author.Tests.{lt-ltb, le-ltb}
use lib.Dec.{eqb}
use lib.ListN.{length, take, drop, take-append-drop}
use Rattle.lines.specs.Fields.{byte_at}
use Rattle.lines.specs.Listings.{Rules}
use Rattle.lines.specs.Machine.{held_step, held_after, state_step, emitted, state_after, text, full, taken}
use Rattle.lines.specs.Calls.{after}
use Rattle.lines.specs.declared.held.Held.{Held}
use Rattle.lines.specs.declared.machine.Listing.{Listing}

pub held_append : (h : Held) (a b : List ℕ) → held_after h (a ++ b) ≡ held_after (held_after h a) b
unfolding held_after
held_append h [] b = refl
held_append h (x ∷ a) b = held_append (held_step h x) a b

module _ (L : Rules) where
  pub state_append : (s : L.State) (h : Held) (a b : List ℕ) →
      state_after L s h (a ++ b) ≡ state_after L (state_after L s h a) (held_after h a) b
  unfolding state_after held_after
  state_append s h [] b = refl
  state_append s h (x ∷ a) b = state_append (state_step L s h x) (held_step h x) a b

  -- of a listing, two runs of bytes, one after the other
  pub after_append : (m : Listing L.State) (a b : List ℕ) → after L m (a ++ b) ≡ after L (after L m a) b
  after_append m a b = rw (state_append m.known m.held a b, held_append m.held a b)

  -- once it was fed the first bytes of what is left, it comes to the same
  pub fed_on : (m m' : Listing L.State) (rest : List ℕ) (used : ℕ) → m' ≡ after L m (take used rest) → after L m rest ≡ after L m' (drop used rest)
  fed_on m m' rest used e = ap (after L m) (sym (take-append-drop used rest)) ∙ rw e (after_append m (take used rest) (drop used rest))

  -- and with nothing left it stays
  pub fed_all : (m : Listing L.State) (rest : List ℕ) → length rest ≡ 0 → m ≡ after L m rest
  unfolding state_after held_after
  fed_all m [] e = refl
  fed_all m (b ∷ bs) e = absurd (omega arith)

  pub text_append : (s : L.State) (h : Held) (a b : List ℕ) →
      text L s h (a ++ b) ≡ text L s h a ++ text L (state_after L s h a) (held_after h a) b
  unfolding state_after held_after text
  text_append s h [] b = refl
  text_append s h (x ∷ a) b = rw (text_append (state_step L s h x) (held_step h x) a b, append_assoc)

  -- where a row may need more space than is left nothing is taken, unless the listing has stopped
  pub taken_none : (s : L.State) (h : Held) (bs : List ℕ) (free : ℕ) → full L s free ≡ true → taken L s h bs free ≡ 0
  unfolding taken
  taken_none s h [] free r = refl
  taken_none s h (b ∷ bs) free r = rw r

  pub short : (s : L.State) (free : ℕ) → L.stops s ≡ false → free < L.space → full L s free ≡ true
  short s free e r = rw (e, lt-ltb free L.space r)

  -- where there is enough, a call can go further, and takes at least one byte
  pub roomy : (s : L.State) (free : ℕ) → L.space ≤ free → full L s free ≡ false
  roomy s free r = rw (le-ltb free L.space r) (and-false (not (L.stops s)))

  pub progress : (s : L.State) (h : Held) (bs : List ℕ) (free : ℕ) → 0 < length bs → L.space ≤ free → 0 < taken L s h bs free
  unfolding taken
  progress s h [] free l r = absurd (omega arith)
  progress s h (b ∷ bs) free l r = rw (roomy s free r) (omega arith)

  pub taken_fits : (s : L.State) (h : Held) (bs : List ℕ) (free : ℕ) → taken L s h bs free ≤ length bs
  unfolding taken
  taken_fits s h [] free = omega arith
  taken_fits s h (b ∷ bs) free = go (full L s free) (taken_fits (state_step L s h b) (held_step h b) bs (free - length (emitted L s h b)))
    where
      go : (t : Bool) {n : ℕ} → n ≤ length bs → cond t 0 (suc n) ≤ suc (length bs)
      go true l = omega arith
      go false l = omega arith

  -- a byte that is no newline moves no state and writes nothing
  still : (s : L.State) (h : Held) (b : ℕ) → eqb b 10 ≡ false → state_step L s h b ≡ s
  unfolding state_step
  still s h b e = rw e

  silent : (s : L.State) (h : Held) (b : ℕ) → eqb b 10 ≡ false → emitted L s h b ≡ []
  unfolding emitted
  silent s h b e = rw e

  -- The bytes before a newline only change what is held. Here `k` is how many they are.
  pub record Line (s : L.State) (h : Held) (bs : List ℕ) (k free : ℕ) : Type 0 where
    pub within : k ≤ length bs
    pub state : state_after L s h (take k bs) ≡ s
    pub silent : text L s h (take k bs) ≡ []
    pub counted : taken L s h bs free ≡ k + taken L s (held_after h (take k bs)) (drop k bs) free

  pub line : (s : L.State) (h : Held) (bs : List ℕ) (free : ℕ) → full L s free ≡ false → Line s h bs (byte_at 10 bs) free
  unfolding byte_at state_after text taken held_after
  line s h [] free r = record { within = omega arith; state = refl; silent = refl; counted = refl }
  line s h (b ∷ bs) free r = go (eqb b 10) refl (λ h'. line s h' bs free r)
    where
      go : (t : Bool) → eqb b 10 ≡ t → ((h' : Held) → Line s h' bs (byte_at 10 bs) free) → Line s h (b ∷ bs) (cond t 0 (suc (byte_at 10 bs))) free
      go true e rest = record { within = omega arith; state = refl; silent = refl; counted = sym (zero-add _) }
      go false e rest =
          let i = rest (held_step h b) in
          record {
            within = omega (arith, i.within);
            state = ap (λ (x : L.State). state_after L x (held_step h b) (take (byte_at 10 bs) bs)) (still s h b e) ∙ i.state;
            silent = rw (still s h b e, silent s h b e) i.silent;
            counted = rw (r, still s h b e, silent s h b e, sub-zero, i.counted) (omega arith);
          }

  -- once the listing has stopped, no byte moves the state or writes anything
  halted : (s : L.State) (h : Held) (b : ℕ) → L.stops s ≡ true → state_step L s h b ≡ s
  unfolding state_step
  halted s h b e = rw e (go (eqb b 10))
    where
      go : (t : Bool) → cond t s s ≡ s
      go true = refl
      go false = refl

  mute : (s : L.State) (h : Held) (b : ℕ) → L.stops s ≡ true → emitted L s h b ≡ []
  unfolding emitted
  mute s h b e = rw e (go (eqb b 10))
    where
      go : (t : Bool) → cond {A = List ℕ} t [] [] ≡ []
      go true = refl
      go false = refl

  -- so it takes all bytes that it is offered, whatever the space, and writes nothing
  pub record Stopped (s : L.State) (h : Held) (bs : List ℕ) (free : ℕ) : Type 0 where
    pub state : state_after L s h bs ≡ s
    pub silent : text L s h bs ≡ []
    pub all : taken L s h bs free ≡ length bs

  pub stopped : (s : L.State) → L.stops s ≡ true → (h : Held) (bs : List ℕ) (free : ℕ) → Stopped s h bs free
  unfolding state_after text taken
  stopped s e h [] free = record { state = refl; silent = refl; all = refl }
  stopped s e h (b ∷ bs) free =
      let i = stopped s e (held_step h b) bs free in
      record {
        state = rw (halted s h b e) i.state;
        silent = rw (halted s h b e, mute s h b e) i.silent;
        all = rw (e, halted s h b e, mute s h b e, sub-zero, i.all);
      }
