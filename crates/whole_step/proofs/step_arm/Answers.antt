-- `step_arm`: the arm with its links integrated. Assumes nothing.
use Rattle.whole_step.proofs.Links.{arm_stepped}
use Rattle.whole_step.proofs.step_arm.Goals as goal

pub returns : goal.returns
returns c = arm_stepped c.args.arm.now c.args.dt _ c.min.ensures _ c.row.ensures _ c.step_links.ensures
