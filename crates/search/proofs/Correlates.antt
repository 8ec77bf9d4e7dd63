-- What follows from the definitions of the correlations.
use Prim.Native.Nat.{ℕ, ◌+◌, ◌≤◌}
use mathlib.Core.Path.{◌≡◌}
use mathlib.Core.Bool.{true, ◌&&◌}
use mathlib.Core.List.{List}
use borrow.Author.Tests.{leb-true, le-leb}
use lib.Dec.{leb}
use lib.Ieee.{Float}
use lib.ListN.{length}
use Rattle.rates.proofs.Known.{both}
use Rattle.search.specs.Correlate.{correlated, lags_inside, correlated_into}
use Rattle.search.proofs.Listed.{list_of_length}

pub correlated_length : (x : List Float) (start len from count : ℕ) → length (correlated x start len from count) ≡ count
unfolding correlated
correlated_length x start len from count = list_of_length _ count

-- what the test says
pub record LagsInside (long start len from count : ℕ) : Type 0 where
  pub frame : start + len ≤ long
  pub lags : (1 ≤ from) × (from + count ≤ start + 1)
  pub few : (8 ≤ count) × (count ≤ 17)

pub inside_facts : (long start len from count : ℕ) → lags_inside long start len from count ≡ true → LagsInside long start len from count
unfolding lags_inside
inside_facts long start len from count e =
    let a = both (leb 8 count && leb count 17 && leb (start + len) long && leb 1 from) (leb (from + count) (start + 1)) e in
    let b = both (leb 8 count && leb count 17 && leb (start + len) long) (leb 1 from) a.0 in
    let c = both (leb 8 count && leb count 17) (leb (start + len) long) b.0 in
    let d = both (leb 8 count) (leb count 17) c.0 in
    record { frame = leb-true _ _ c.1; lags = (leb-true _ _ b.1, leb-true _ _ a.1); few = (leb-true _ _ d.0, leb-true _ _ d.1) }

-- where they lie within x
pub correlated_where_inside : (r x : List Float) (start len from : ℕ) → LagsInside (length x) start len from (length r) →
    correlated_into r x start len from ≡ correlated x start len from (length r)
unfolding correlated_into lags_inside
correlated_where_inside r x start len from h =
    rw (le-leb _ _ h.few.0, le-leb _ _ h.few.1, le-leb _ _ h.frame, le-leb _ _ h.lags.0, le-leb _ _ h.lags.1)
