-- `window_sums` sums three times eight windows a turn, and the last two by themselves.
use Prim.Native.Nat.{ℕ, ◌+◌, ◌*◌, ◌≤◌, ◌<◌}
use mathlib.Core.Path.{◌≡◌, refl, ◌∙◌, ap}
use mathlib.Core.Bool.{Bool, true, false}
use mathlib.Core.List.{List}
use native.Mathlib.Omega.{arith}
use borrow.Author.Rules.{rules}
use borrow.Author.Tests.{ltb-true, ltb-false}
use lib.Dec.{ltb}
use lib.Ieee.{Float, nan}
use lib.ListN.{length, set, length-set}
use lib.Seq.{get_or-set_same, get_or-set_other}
use Rattle.floats.specs.Single.{at}
use Rattle.search.specs.Lists.{list_of}
use Rattle.search.specs.Blocks.{eight}
use Rattle.search.proofs.Listed.{as_list_of}
use Rattle.search.proofs.Blocks.{length_three, three_kept, three_in}
use Rattle.search.proofs.pitch.Signal.window_sums.Goals as goal

-- a turn more
grown : (f : ℕ → Float) (r s : List Float) (b : ℕ) → length r ≡ 98 → b < 4 → ((k : ℕ) → k < 24 * b → at r k ≡ f k) →
    s ≡ eight f (24 * b + 16) (eight f (24 * b + 8) (eight f (24 * b) r)) → (k : ℕ) → k < 24 * (b + 1) → at s k ≡ f k
grown f r s b l h g e k d = rw e (go (ltb k (24 * b)) refl)
  where
    p : 24 * b + 8 ≤ length r
    p = omega arith

    q : 24 * b + 8 + 8 ≤ length r
    q = omega arith

    w : 24 * b + 16 + 8 ≤ length r
    w = omega arith

    go : (t : Bool) → ltb k (24 * b) ≡ t → at (eight f (24 * b + 16) (eight f (24 * b + 8) (eight f (24 * b) r))) k ≡ f k
    go true y = three_kept f (24 * b) (24 * b + 8) (24 * b + 16) r p q w k (g k (ltb-true k (24 * b) y))
    go false y = three_in f (24 * b) (24 * b + 8) (24 * b + 16) r p q w k (ltb-false k (24 * b) y) (omega arith) (omega arith) (omega arith)

-- the last two
all : (f : ℕ → Float) (r : List Float) (u v : Float) → length r ≡ 98 → ((k : ℕ) → k < 96 → at r k ≡ f k) → u ≡ f 96 → v ≡ f 97 →
    set (set r 96 u) 97 v ≡ list_of f 98
all f r u v l g a b = as_list_of f _ 98 (simp length-set l) (λ k d. last k d (ltb k 97) refl)
  where
    long : length (set r 96 u) ≡ 98
    long = simp length-set l

    first : (k : ℕ) → k < 97 → (t : Bool) → ltb k 96 ≡ t → at (set r 96 u) k ≡ f k
    first k d true y = let h : k < 96 = ltb-true k 96 y in get_or-set_other r 96 k u nan (λ e. omega arith) ∙ g k h
    first k d false y = let e : k ≡ 96 = omega (arith, ltb-false k 96 y) in rw e (get_or-set_same r 96 u nan (omega arith) ∙ a)

    last : (k : ℕ) → k < 98 → (t : Bool) → ltb k 97 ≡ t → at (set (set r 96 u) 97 v) k ≡ f k
    last k d true y = let h : k < 97 = ltb-true k 97 y in get_or-set_other (set r 96 u) 97 k v nan (λ e. omega arith) ∙ first k h (ltb k 96) refl
    last k d false y = let e : k ≡ 97 = omega (arith, ltb-false k 97 y) in rw e (get_or-set_same (set r 96 u) 97 v nan (omega (arith, long)) ∙ b)

pub loop-b-preserved : goal.loop-b-preserved
loop-b-preserved c =
    let l = c.loop-b in
    let e = c.put_sums.ensures in (
      search rules,
      ap length e ∙ length_three _ (24 * l.b) (24 * l.b + 8) (24 * l.b + 16) l.sums (omega arith) (omega arith) (omega arith) ∙ l.invariant.1,
      grown _ l.sums _ l.b l.invariant.1 (search rules) l.invariant.2 e,
    )

pub returns : goal.returns
returns c =
    let l = c.loop-b in
    all _ l.sums _ _ l.invariant.1 (λ k h. l.invariant.2 k (omega arith)) c.sum_of_products.ensures c.sum_of_products-2.ensures
