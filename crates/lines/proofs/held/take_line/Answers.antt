-- `take_line` holds byte after byte; what it is to give follows at each turn from what is held and what is left.
use Prim.Native.Nat.{ℕ, ◌+◌, ◌≤◌, ◌<◌}
use mathlib.Core.Path.{◌≡◌, sym, ◌∙◌}
use mathlib.Core.List.{List}
use native.Mathlib.Numerals.{add-one}
use native.Mathlib.Nat.{add-zero, add-suc, suc-add}
use borrow.Author.Tests.{eq-eqb, ne_eqb, lt-ltb, le-ltb}
use lib.ListN.{length, drop, get_or, set, length-set, drop_of_length-le}
use lib.Seq.{drop-cons}
use Rattle.lines.specs.Fields.{byte_at}
use Rattle.lines.specs.Machine.{held_step, held_after, line_taken}
use Rattle.lines.specs.declared.held.Held.{Held}
use Rattle.lines.specs.declared.held.Taken.{Taken}
use Rattle.lines.proofs.held.take_line.Goals as goal
use native.Mathlib.Omega.{arith}

abbrev holding : List ℕ → ℕ → Held
holding bytes len = record { bytes = bytes; len = len }

-- at byte i: a newline, one byte further, or the end
here : (h : Held) (s : List ℕ) (i : ℕ) → i < length s → get_or s i 0 ≡ 10 → line_taken h (drop i s) i ≡ record { held = h; at = i }
unfolding byte_at held_after
here h s i l e = rw (drop-cons s i 0, eq-eqb _ _ e, add-zero)

further : (h : Held) (s : List ℕ) (i : ℕ) → i < length s → (get_or s i 0 ≡ 10 → ⊥) →
    line_taken h (drop i s) i ≡ line_taken (held_step h (get_or s i 0)) (drop (i + 1) s) (i + 1)
unfolding byte_at held_after
further h s i l n = rw (drop-cons s i 0, ne_eqb _ _ n, add-one, add-suc, suc-add)

done : (h : Held) (s : List ℕ) (i : ℕ) → length s ≤ i → line_taken h (drop i s) i ≡ record { held = h; at = i }
unfolding byte_at held_after
done h s i l = rw (drop_of_length-le s l, add-zero)

-- a byte that is no newline is held, or there is no space for it
kept : (bytes : List ℕ) (len b : ℕ) → (b ≡ 10 → ⊥) → len < 32 → held_step (holding bytes len) b ≡ holding (set bytes len b) (len + 1)
unfolding held_step
kept bytes len b n l = rw (ne_eqb _ _ n, lt-ltb _ _ l)

passed : (bytes : List ℕ) (len b : ℕ) → (b ≡ 10 → ⊥) → 32 ≤ len → held_step (holding bytes len) b ≡ holding bytes len
unfolding held_step
passed bytes len b n l = rw (ne_eqb _ _ n, le-ltb _ _ l)

-- one turn more
again : (t : Taken) (bytes bytes' : List ℕ) (len len' : ℕ) (s : List ℕ) (i : ℕ) → t ≡ line_taken (holding bytes len) (drop i s) i →
    i < length s → (get_or s i 0 ≡ 10 → ⊥) → held_step (holding bytes len) (get_or s i 0) ≡ holding bytes' len' →
    t ≡ line_taken (holding bytes' len') (drop (i + 1) s) (i + 1)
again t bytes bytes' len len' s i e l n p = e ∙ rw (← p) (further (holding bytes len) s i l n)

pub returns-then-b-eq10 : goal.returns-then-b-eq10
returns-then-b-eq10 c = sym (c.loop-at.invariant.left ∙ here _ _ _ c.loop-at-test.true c.if-b-eq10.true)

pub loop-at-preserved : goal.loop-at-preserved
loop-at-preserved c =
    record {
      size = grind (arith, length-set, c.loop-at.invariant.size);
      within = omega arith;
      left = grind (arith, again, kept, passed, c.loop-at.invariant.left, c.loop-at-test.true, c.if-b-eq10.false);
    }

pub returns : goal.returns
returns c =
    let all : c.max.result ≡ c.loop-at.at = omega (arith, c.max.ensures, c.loop-at.invariant.within) in
    rw all (sym (c.loop-at.invariant.left ∙ done _ _ _ c.loop-at-test.false))
