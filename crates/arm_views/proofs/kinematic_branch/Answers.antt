-- `kinematic_branch`: an accepted call is accepted for the parents of the links that count. Assumes nothing.
use Rattle.std.proofs.Common.{◌∙◌, ap, arith}
use lib.ListN.{length, length-take}
use Rattle.refusal.proofs.Answers.{passed}
use Rattle.arm.proofs.Live.{links_le, parents_counted}
use Rattle.arm_views.proofs.Branches.{whole_by_parents, branch_accepted}
use Rattle.arm_views.proofs.kinematic_branch.Goals as goal

pub slice_bounds-parents-end : goal.slice_bounds-parents-end
slice_bounds-parents-end c = omega (arith, links_le c.args.arm.now, ap length c.live_links.ensures)

pub slice_bounds-kinematic_branch-end : goal.slice_bounds-kinematic_branch-end
slice_bounds-kinematic_branch-end c = simp length-take (omega (arith, links_le c.args.arm.now, ap length c.live_links.ensures))

pub returns : goal.returns
returns c =
    let a = c.args.arm.now in
    let whole = whole_by_parents a _ (omega arith) c.parents-parents.ensures in
    c.kinematic_branch.ensures
    ∙ branch_accepted a c.args.link _ c.args.to.now whole (passed c.in_ok-branch_refusal.was c.branch_refusal.ensures)
    (parents_counted a whole _ c.live_links.ensures _ c.parents-parents.ensures)
