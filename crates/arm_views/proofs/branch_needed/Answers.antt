-- `branch_needed`: the length of the branch over the parents of the links that count. Assumes nothing.
use Rattle.std.proofs.Common.{ap, arith}
use lib.ListN.{length, length-take}
use Rattle.arm.proofs.Live.{links_le, parents_counted}
use Rattle.arm_views.proofs.Branches.{whole_by_parents, arm_needed}
use Rattle.arm_views.proofs.branch_needed.Goals as goal

pub slice_bounds-parents-end : goal.slice_bounds-parents-end
slice_bounds-parents-end c = omega (arith, links_le c.args.arm.now, ap length c.live_links.ensures)

pub slice_bounds-branch_length-end : goal.slice_bounds-branch_length-end
slice_bounds-branch_length-end c = simp length-take (omega (arith, links_le c.args.arm.now, ap length c.live_links.ensures))

pub returns : goal.returns
returns c =
    let a = c.args.arm.now in
    let whole = whole_by_parents a _ (omega arith) c.parents-parents.ensures in
    arm_needed _ _ _ _ c.branch_length.ensures (parents_counted a whole _ c.live_links.ensures _ c.parents-parents.ensures)
