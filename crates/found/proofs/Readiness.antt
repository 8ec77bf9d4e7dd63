-- Where the test before the search for a lag fails, and where it does not.
use Prim.Native.Nat.{◌≤◌}
use mathlib.Core.Path.{◌≡◌, refl}
use mathlib.Core.Bool.{Bool, true, false, ◌&&◌}
use mathlib.Core.List.{List}
use borrow.Author.Tests.{leb-true, eq-eqb, ne_eqb}
use lib.Dec.{leb}
use lib.Ieee.{Float}
use lib.ListN.{length}
use Rattle.rates.proofs.Known.{both}
use Rattle.search.specs.declared.pitch.Detected.{Detected}
use Rattle.found.specs.Found.{ready}

off : (a b : Bool) → (a && false && b) ≡ false
off true b = refl
off false b = refl

last : (a : Bool) → (a && false) ≡ false
last true = refl
last false = refl

-- a table has not its length
pub first_unready : (d : Detected) (k s : List Float) → (length k ≡ 31 → ⊥) → ready d k s ≡ false
unfolding ready
first_unready d k s h = rw (ne_eqb (length k) 31 h) (off _ _)

pub second_unready : (d : Detected) (k s : List Float) → (length s ≡ 15 → ⊥) → ready d k s ≡ false
unfolding ready
second_unready d k s h = rw (ne_eqb (length s) 15 h) (last _)

-- both have
pub ready_by : (d : Detected) (k s : List Float) (b : Bool) → length k ≡ 31 → length s ≡ 15 → b ≡ (d.present && leb 17 d.t_curr && leb d.t_curr 114) → ready d k s ≡ (b && true && true)
unfolding ready
ready_by d k s b g h e = rw (eq-eqb (length k) 31 g, eq-eqb (length s) 15 h, e)

-- the lag that was detected
pub ready_lag : (d : Detected) → (d.present && leb 17 d.t_curr && leb d.t_curr 114) ≡ true → (17 ≤ d.t_curr) × (d.t_curr ≤ 114)
ready_lag d e =
    let c = both (d.present && leb 17 d.t_curr) (leb d.t_curr 114) e in
    (leb-true _ _ (both d.present (leb 17 d.t_curr) c.0).1, leb-true _ _ c.1)
