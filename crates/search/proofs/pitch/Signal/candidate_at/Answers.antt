-- `candidate_at` takes the root of the product of the two energies.
use Rattle.search.specs.Pitch.{root_at}
use Rattle.search.proofs.pitch.Signal.candidate_at.Goals as goal

pub returns : goal.returns
unfolding root_at
returns c =
    rw (c.normalised_correlation-normcorr.ensures, c.sqrt-root.ensures, c.energy-2.ensures, c.energy.ensures)
