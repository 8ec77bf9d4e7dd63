-- `correlations` turns the sums round, so that the shortest lag comes first.
use Prim.Native.Nat.{ℕ, ◌+◌, ◌-◌}
use mathlib.Core.Path.{◌≡◌, ◌∙◌, ap}
use mathlib.Core.List.{List}
use native.Mathlib.Omega.{arith}
use lib.Ieee.{Float}
use lib.ListN.{length}
use Rattle.floats.specs.Single.{at}
use Rattle.lanes.specs.Sums.{product_sum, window}
use Rattle.search.specs.Pitch.{correlations}
use Rattle.search.proofs.Listed.{turned, list_of_at, list_of_length}
use Rattle.search.proofs.pitch.Signal.correlations.Goals as goal

pub returns : goal.returns
unfolding correlations
returns c =
    let x = c.args.self.x_6p4.now in
    let sum : ℕ → Float = λ i. product_sum (window x 114) (window x (0 + i)) c.args.self.len6p4 in
    let e = c.window_sums-r_6p4.ensures in
    c.reverse.ensures.after
    ∙ turned sum _ c.window_sums-r_6p4.result 98 (ap length e ∙ list_of_length sum 98) (λ k h. ap (λ (s : List Float). at s k) e ∙ list_of_at sum 98 k h)
    (λ k h. let i : 0 + (98 - 1 - k) ≡ 114 - (17 + k) = omega arith in rw i)
