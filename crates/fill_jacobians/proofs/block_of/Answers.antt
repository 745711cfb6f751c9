-- `block_of`: the first chunk of what stands from there on.
use Rattle.std.proofs.Common.{◌∙◌, ◌*◌, ◌-◌, ap, arith, take, drop, length, length-drop}
use Rattle.std.proofs.lemmas.List.{take_all}
use Rattle.limits.specs.Limits.{block_size}
use Rattle.fill_jacobians.proofs.block_of.Goals as goal

pub returns : goal.returns
returns c =
    let t = c.args.tables.now in
    let at = c.args.link * block_size in
    (rw c.unwrap.ensures at c.first_chunk.ensures.cases).same ∙ ap (take block_size) (take_all (length t - at) (drop at t) (omega (arith, length-drop at t)))
