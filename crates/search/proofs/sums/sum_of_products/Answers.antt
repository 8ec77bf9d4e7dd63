-- `sum_of_products` adds one product a turn.
use Prim.Native.Nat.{ℕ, suc, ◌+◌, ◌-◌, ◌<◌}
use mathlib.Core.Path.{◌≡◌, refl}
use mathlib.Core.List.{List}
use native.Mathlib.Omega.{arith}
use native.Mathlib.Numerals.{add-one}
use lib.Ieee.{Float, of_bits, nan}
use lib.ListN.{length, take, drop, length-append, length-take}
use lib.Seq.{get_or-take, get_or-drop}
use Rattle.std.proofs.lemmas.Slice.Zip.{zip_turn}
use Rattle.floats.specs.Single.{◌⊕◌, ◌⊗◌, at}
use Rattle.lanes.specs.Sums.{product_sum, window}
use Rattle.search.proofs.sums.sum_of_products.Goals as goal

pub loop-p-init : goal.loop-p-init
unfolding product_sum of_bits
loop-p-init c = refl

-- a product more, of what stands at place i of two windows
one_more : (x : List Float) (a b n m i : ℕ) (sum p q : Float) → i < length (take n (drop a x)) → i < length (take m (drop b x)) →
    p ≡ at (take n (drop a x)) i → q ≡ at (take m (drop b x)) i → sum ≡ product_sum (window x a) (window x b) i →
    sum ⊕ p ⊗ q ≡ product_sum (window x a) (window x b) (suc i)
unfolding product_sum
one_more x a b n m i sum p q k l e f g =
    let h : i < n = omega (arith, length-take n (drop a x)) in
    let j : i < m = omega (arith, length-take m (drop b x)) in
    rw (e, f, g, get_or-take n (drop a x) i nan h, get_or-take m (drop b x) i nan j, get_or-drop a x i nan, get_or-drop b x i nan)

pub loop-p-preserved : goal.loop-p-preserved
loop-p-preserved c =
    let a = c.args in
    let one = c.into_iter-p-iterator.ensures.into_iter_gives in
    let first : c.into_iter-p-iterator.result.a.rest.now ≡ take (a.a + a.len - a.a) (drop a.a a.x.now) = rw (one, c.zip-p-items.ensures.first) c.iter.ensures.rest in
    let second : c.into_iter-p-iterator.result.b.rest.now ≡ take (a.b + a.len - a.b) (drop a.b a.x.now) = rw one c.zip-p-items.ensures.second.0 in
    let turn = zip_turn _ _ c.loop-p.yielded _ c.loop-p.p-iterator c.next.new.self _ first second c.loop-p.yielded_by (c.in-Some.p, c.in-Some.q) c.in-Some.is c.next.ensures.steps in
    rw (length-append, add-one)
    (one_more a.x.now a.a a.b _ _ _ _ _ _ turn.0 turn.1 (turn.2 nan) (turn.3 nan) c.loop-p.invariant)
