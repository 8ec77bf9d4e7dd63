-- `put_text` copies where the text fits.
use Rattle.std.proofs.Common.{refl, ◌∙◌, sym}
use Rattle.std.proofs.lemmas.Bool.{leb-true}
use Rattle.cells.proofs.Stores.{put_written, placed_sets}
use Rattle.cells.proofs.cell.put_text.Goals as goal

pub returns : goal.returns
returns c =
    let h = leb-true _ _ (sym c.fits.ensures ∙ c.if-not-fits.false) in
    put_written h (record { stored = c.put.ensures ∙ placed_sets _ _ _ h; ends = refl })
