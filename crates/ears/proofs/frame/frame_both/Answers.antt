-- `frame_both` judges both ears, and takes each through the three steps.
use mathlib.Core.Path.{refl}
use Rattle.ears.specs.Both.{ear_framed}
use Rattle.ears.specs.InPlace.{state_of}
use Rattle.ears.proofs.Steps.{both_told, room, steppable, still, ear_apart, both_apart_lem}
use Rattle.ears.proofs.frame.frame_both.Goals as goal

pub take_up-requires : goal.take_up-requires
take_up-requires c =
    let a = c.args in
    let t = both_told a.left a.right a.numerators.now a.denominators.now a.nbits a.samples.now _ c.judge_both-verdicts.ensures in
    (room t.0 _ refl, room t.1 _ refl)

pub step_ear-requires : goal.step_ear-requires
step_ear-requires c =
    let a = c.args in
    let t = both_told a.left a.right a.numerators.now a.denominators.now a.nbits a.samples.now _ c.judge_both-verdicts.ensures in
    steppable t.0 _ _ _

pub step_ear-requires-2 : goal.step_ear-requires-2
step_ear-requires-2 c =
    let a = c.args in
    let t = both_told a.left a.right a.numerators.now a.denominators.now a.nbits a.samples.now _ c.judge_both-verdicts.ensures in
    steppable t.1 _ _ _

pub hand_back-requires : goal.hand_back-requires
hand_back-requires c =
    let a = c.args in
    let t = both_told a.left a.right a.numerators.now a.denominators.now a.nbits a.samples.now _ c.judge_both-verdicts.ensures in
    let taken = c.take_up.ensures in (
      room t.0 _ refl,
      room t.1 _ refl,
      still t.0 _ _ _ taken.2 c.step_ear.ensures.1 _ _ _ _ taken.0 c.step_ear.ensures.0,
      still t.1 _ _ _ taken.3 c.step_ear-2.ensures.1 _ _ _ _ taken.1 c.step_ear-2.ensures.0,
    )

pub returns : goal.returns
returns c =
    let a = c.args in
    let t = both_told a.left a.right a.numerators.now a.denominators.now a.nbits a.samples.now _ c.judge_both-verdicts.ensures in
    let taken = c.take_up.ensures in
    rw c.hand_back.ensures
    (both_apart_lem (ear_framed _ (state_of a.left _ _ _) _ _) (ear_framed _ (state_of a.right _ _ _) _ _)
    (ear_apart t.0 _ _ _ taken.2 c.step_ear.ensures.1 _ _ _ _ taken.0 c.step_ear.ensures.0 _ refl)
    (ear_apart t.1 _ _ _ taken.3 c.step_ear-2.ensures.1 _ _ _ _ taken.1 c.step_ear-2.ensures.0 _ refl))
