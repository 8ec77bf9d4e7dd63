-- A rule of the table of rates, proved at every row by one test that is computed over the whole table.
use Prim.Native.Nat.{ℕ, ◌≤◌}
use mathlib.Core.Path.{◌≡◌, refl, sym, subst}
use mathlib.Core.Bool.{Bool, true, false, cond}
use mathlib.Core.List.{List, [], ◌∷◌}
use native.Mathlib.Omega.{arith}
use lib.Dec.{T, eqb, leb, leb→le}
use Rattle.rates.specs.Table.{rates, find, row_of}
use Rattle.rates.specs.declared.table.Rate.{Rate}
use Rattle.std.proofs.Common.{Option, Some}

-- the test passes at each row
abbrev pub every : (Rate → Bool) → List Rate → Bool
every f [] = true
every f (r ∷ rows) = cond (f r) (every f rows) false

pick_row : (f : Rate → Bool) (r row : Rate) (rest : Bool) (b c : Bool) (other : Option Rate) → f r ≡ c →
    T (cond c rest false) → (T rest → other ≡ Some row → T (f row)) → cond b (Some r) other ≡ Some row → T (f row)
pick_row f r row rest b false other e t h p = absurd t
pick_row f r row rest false true other e t h p = h t p
pick_row f r row rest true true other e t h p =
    let same : r ≡ row = cc in subst (λ (x : Rate). T (f x)) same (subst T (sym e) tt)

among : (f : Rate → Bool) (hz : ℕ) (row : Rate) (rows : List Rate) → T (every f rows) → find hz rows ≡ Some row → T (f row)
unfolding find
among f hz row [] t p = let z : ◌≡◌ {A = ℕ} 0 1 = cc in absurd (omega arith)
among f hz row (r ∷ rows) t p =
    pick_row f r row (every f rows) (eqb r.hz hz) (f r) (find hz rows) refl t (among f hz row rows) p

-- a test that passes at every row passes at the row of any rate
pub at_row : (f : Rate → Bool) → T (every f rates) → (hz : ℕ) (row : Rate) → row_of hz ≡ Some row → T (f row)
at_row f t hz row p = among f hz row rates t p

-- a bound that holds in every row holds in the row of any rate
pub bound_at : (f g : Rate → ℕ) → T (every (λ (r : Rate). leb (f r) (g r)) rates) → (hz : ℕ) (row : Rate) → row_of hz ≡ Some row → f row ≤ g row
bound_at f g t hz row p = leb→le (f row) (g row) (at_row (λ (r : Rate). leb (f r) (g r)) t hz row p)
