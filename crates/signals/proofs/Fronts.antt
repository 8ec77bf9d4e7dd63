-- A past, or a part of a signal, that is put at the front of an array is written there.
use Prim.Native.Nat.{ℕ, ◌+◌, ◌≤◌, ◌<◌}
use mathlib.Core.Path.{◌≡◌, ◌∙◌, ap}
use mathlib.Core.List.{List}
use native.Mathlib.Nat.{zero-add}
use native.Mathlib.Omega.{arith}
use lib.Ieee.{Float}
use lib.ListN.{length, take, drop, length-take, length-drop}
use lib.Seq.{get_or-take, get_or-drop}
use Rattle.lanes.specs.Sums.{window}
use Rattle.slices.specs.Slices.{placed}
use Rattle.slices.specs.Written.{written}
use Rattle.slices.proofs.Written.{placed_written, written_same}

pub front : (x past : List Float) (n : ℕ) → length past ≡ n → n ≤ length x → placed x 0 past ≡ written x 0 (window past 0) n
front x past n l h =
    placed_written x past 0 (omega arith) ∙ ap (written x 0 _) l ∙ written_same x 0 _ (window past 0) n (λ k b. rw zero-add)

-- the array that it was put into
pub fronted : (x past r : List Float) (n : ℕ) → length past ≡ n → n ≤ length x → r ≡ placed x 0 past → r ≡ written x 0 (window past 0) n
fronted x past r n l h e = e ∙ front x past n l h

pub part : (l x : List Float) (start n m : ℕ) → m ≡ n → start + n ≤ length x → n ≤ length l → placed l 0 (take m (drop start x)) ≡ written l 0 (window x start) n
part l x start n m e h k =
    let long : length (take m (drop start x)) ≡ n = simp (length-take, length-drop) (omega arith) in
    placed_written l (take m (drop start x)) 0 (omega arith) ∙ ap (written l 0 _) long
    ∙ written_same l 0 _ (window x start) n (λ i b. let inside : i < m = omega arith in rw (get_or-take, get_or-drop))
