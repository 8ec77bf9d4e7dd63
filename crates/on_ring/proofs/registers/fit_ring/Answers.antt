-- `fit_ring`: a configuration of the table has a frame of some samples.
use borrow.Author.Rules.{rules}
use Rattle.control.proofs.Sizes.{from_table, sized}
use Rattle.on_ring.proofs.registers.fit_ring.Goals as goal

pub ring_fits-requires : goal.ring_fits-requires
ring_fits-requires c =
    let m = c.args.registers.marks in
    (sized _ (from_table m.rate m.duration c.in_ok-found.found (search rules))).frame_some
