-- `is_finite`: a number is what lies strictly between the two infinities.
use mathlib.Core.Path.{◌≡◌, refl, sym}
use mathlib.Core.Bool.{true, false, true≢false}
use lib.Ieee.{Float, nan, inf, fin, lt, neg, div, of_bits}
use Rattle.floats.specs.Single.{finite}
use Rattle.floats.proofs.is_finite.Goals as goal

between : (x : Float) → lt x (inf false) ≡ true → lt (inf true) x ≡ finite x
unfolding lt
between nan h = refl
between (inf true) h = refl
between (inf false) h = absurd (true≢false (sym h))
between (fin s m e) h = refl

outside : (x : Float) → lt x (inf false) ≡ false → false ≡ finite x
unfolding lt
outside nan h = refl
outside (inf s) h = refl
outside (fin s m e) h = absurd (true≢false h)

pub returns-then-x-infinity : goal.returns-then-x-infinity
unfolding lt neg div of_bits
returns-then-x-infinity c = between c.args.x c.if-x-infinity.true

pub returns : goal.returns
unfolding lt div of_bits
returns c = outside c.args.x c.if-x-infinity.false
