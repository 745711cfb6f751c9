use Rattle.std.proofs.Common.{◌∙◌, ap, arith}
use lib.ListN.{length, length-take}
use Rattle.topology.specs.Parents.{parents_fit}
use Rattle.arm.specs.HandedIn.{parents_earlier}
use Rattle.arm.proofs.Live.{links_le, parents_counted}
use Rattle.arm.proofs.Arm.parents_earlier.Goals as goal

pub slice_bounds-parents-end : goal.slice_bounds-parents-end
slice_bounds-parents-end c = omega (arith, links_le c.args.self.now, ap length c.live_links.ensures)

pub slice_bounds-parents_fit-end : goal.slice_bounds-parents_fit-end
slice_bounds-parents_fit-end c =
    simp length-take (omega (arith, links_le c.args.self.now, ap length c.live_links.ensures))

pub returns : goal.returns
unfolding parents_earlier
returns c = c.parents_fit.ensures ∙ ap parents_fit (parents_counted c.args.self.now (omega arith) _ c.live_links.ensures _ c.parents-parents.ensures)
