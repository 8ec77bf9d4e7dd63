-- `lost` takes the state apart for `lost_in_place`, and puts it together again.
use Rattle.decoder.proofs.Apart.{lost_without_arrays}
use Rattle.decoder.proofs.frame.lost.Goals as goal

pub returns : goal.returns
returns c =
    let d = c.args.decoder in
    rw c.lost_in_place-marked.ensures (lost_without_arrays d.registers d.kept d.x_hat_mem d.x_hat_ltpf_mem)
