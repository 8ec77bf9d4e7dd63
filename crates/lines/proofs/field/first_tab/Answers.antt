-- `first_tab` passes over bytes that are no tab.
use Prim.Native.Nat.{ℕ, ◌+◌}
use mathlib.Core.Path.{◌≡◌, refl}
use mathlib.Core.List.{List, ◌∷◌}
use native.Mathlib.Numerals.{add-one}
use borrow.Author.Rules.{rules}
use borrow.Author.Tests.{tests, eq-eqb, ne_eqb}
use Rattle.std.proofs.Common.{length, unwrap_or}
use Rattle.std.proofs.lemmas.Iterator.{YieldsList-from_slice, IsFirst-from_position, index_from_first}
use Rattle.lines.specs.Fields.{byte_at, tab_at}
use Rattle.lines.proofs.field.first_tab.Goals as goal

here : (x : ℕ) (xs : List ℕ) → x ≡ 9 → tab_at (x ∷ xs) ≡ 0
unfolding byte_at
here x xs e = rw (eq-eqb _ _ e)

further : (x : ℕ) (xs : List ℕ) → (x ≡ 9 → ⊥) → tab_at (x ∷ xs) ≡ tab_at xs + 1
unfolding byte_at
further x xs n = rw (ne_eqb _ _ n, add-one)

pub returns : goal.returns
unfolding byte_at
returns c =
    let found = IsFirst-from_position _ _ c.position.result (λ x. x ≡ 9) (λ x. x ≡ 9 → ⊥) c.position.ensures.ran (YieldsList-from_slice c.args.line.now c.iter.ensures.rest)
    (λ x q k. search (rules, tests)) (λ x q k. search (rules, tests)) in
    let first : tab_at c.args.line.now ≡ unwrap_or c.position.result (length c.args.line.now) =
    index_from_first tab_at (λ x. x ≡ 9) (λ x. x ≡ 9 → ⊥) refl here further c.args.line.now c.position.result found in
    cc
