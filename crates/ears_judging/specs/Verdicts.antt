-- What the functions that judge both ears promise each other. No promise of a public function names any of it.
use Rattle.judging.specs.declared.plan.Plan.{Plan}
use Rattle.rates.specs.declared.answer.Refusal.{Refusal}
use Rattle.std.specs.Prelude.{ℕ, ◌*◌, Bool, true, false, List, Float, length, Result, Err}
use Rattle.floats.specs.Single.{all_in_range}
use Rattle.rates.specs.Answers.{Answer}
use Rattle.rates.specs.declared.answer.Refusal.TheVariants.{UnfitState}
use Rattle.rates.specs.declared.config.Lc3Config.{Lc3Config}
use Rattle.control.specs.declared.marks.Marks.{Marks}
use Rattle.judging.specs.Judge.{judged_side, ranged}
use Rattle.judging.specs.Lent.{lent_of, where_fine}
use Rattle.judging.specs.declared.plan.SideInfo.{SideInfo}
use Rattle.on_ring.specs.Registers.{ring_fits}
use Rattle.interleave.specs.Turns.{lefts, rights}
use Rattle.ears_judging.specs.declared.ear.Ear.{Ear}
use Rattle.ears_judging.specs.declared.judge.Verdicts.{Verdicts}

-- the verdict on an ear before its samples are looked at
abbrev pub until_samples : Bool → Marks → Lc3Config → Answer → SideInfo → Result Plan Refusal
until_samples false m c lent side = Err UnfitState
until_samples true m c lent side = where_fine lent (judged_side m c side)

-- and with them
abbrev pub ranged_both : Result Plan Refusal → Result Plan Refusal → List Float → Verdicts
ranged_both left right buffer = record { left = ranged (all_in_range (lefts buffer)) left; right = ranged (all_in_range (rights buffer)) right }

-- the verdicts on two ears of one configuration
abbrev pub judged_alike : Ear → Ear → Lc3Config → List Float → List Float → ℕ → List Float → Verdicts
judged_alike l r c numerators denominators nbits buffer =
    let lent = lent_of c.fs.l_den numerators denominators (length buffer) (2 * c.nf) in
    ranged_both (until_samples (ring_fits c l.registers) l.registers.marks c lent (record { pitch = l.pitch; nbits = nbits }))
    (until_samples (ring_fits c r.registers) r.registers.marks c lent (record { pitch = r.pitch; nbits = nbits })) buffer
