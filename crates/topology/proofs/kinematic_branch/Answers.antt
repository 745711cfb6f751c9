-- `kinematic_branch`: refused as defined, or the branch is written. Assumes nothing.
use Rattle.topology.proofs.Refused.{accepted, branch_done, branch_refused}
use borrow.Author.Tests.{leb-true}
use Rattle.topology.proofs.kinematic_branch.Goals as goal

pub returns-in_err-refusal_of : goal.returns-in_err-refusal_of
returns-in_err-refusal_of c =
    branch_refused c.args.parents.now c.args.link c.args.to.now c.branch_length-n.result c.branch_length-n.ensures c.refusal_of.ensures c.in_err-refusal_of.was _
    c.from_residual.ensures.1

pub write_branch-requires : goal.write_branch-requires
write_branch-requires c =
    let a = accepted c.in_ok-refusal_of.was c.args.parents.now c.args.link _ c.refusal_of.ensures in
    record {
      parents_len_bound = a.few;
      n_value = c.branch_length-n.ensures;
      n_in_bounds = leb-true _ _ a.room;
    }

pub returns : goal.returns
returns c =
    branch_done c.args.parents.now c.args.link c.args.to.now c.branch_length-n.result c.branch_length-n.ensures c.refusal_of.ensures c.in_ok-refusal_of.was _
    c.write_branch.ensures
