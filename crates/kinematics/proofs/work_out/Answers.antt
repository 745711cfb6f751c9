-- `work_out`: turn by turn. Assumes nothing.
use Rattle.std.proofs.Common.{◌≡◌, ap, arith}
use Rattle.kinematics.specs.State.{marked}
use Rattle.kinematics.proofs.Turns.{held_all, held_more, held_none, held_skip, worked_no, not_fine}
use Rattle.kinematics.proofs.Refused.{not_ok}
use Rattle.std.specs.Prelude.{is_ok}
use Rattle.kinematics.proofs.work_out.Goals as goal
use Rattle.kinematics.proofs.work_out.Goals.{then-marks-j+in_ok-turn, else-marks-j}

pub loop-j-init : goal.loop-j-init
loop-j-init c =
    held_none c.args.links.now c.args.n (marked c.args.marks.now) c.args.tables.now c.args.work.now (omega arith) (omega arith)

pub returns-in_err-turn-clause-worked : goal.returns-in_err-turn-clause-worked
returns-in_err-turn-clause-worked c =
    worked_no c.args.links.now c.args.n (marked c.args.marks.now) c.args.tables.now c.args.work.now _ _ (not_ok c.from_residual.result c.from_residual.ensures.0)
    (not_fine c.args.links.now c.args.n c.requires c.told-links (marked c.args.marks.now) c.args.tables.now c.args.work.now (omega arith)
    c.loop-j.j c.loop-j.start c.loop-j.work c.loop-j.links c.loop-j.invariant c.loop-j-test.true c.if-marks-j.true
    c.parent_before-parent.result c.parent_before-parent.ensures c.copy_parent.new.work c.copy_parent.ensures c.link_above-above.result c.link_above-above.ensures
    c.refresh_link-turn.new.block _ c.refresh_link-turn.ensures.turn (ap is_ok c.in_err-turn.was))

pub loop-j-preserved : goal.loop-j-preserved
loop-j-preserved c = elim c.if-marks-j.branch [
  | then-marks-j+in_ok-turn w ↦
      held_more c.args.links.now c.args.n c.requires c.told-links (marked c.args.marks.now) c.args.tables.now c.args.work.now (omega arith)
      c.loop-j.j c.loop-j.start c.loop-j.work c.loop-j.links c.loop-j.invariant c.loop-j-test.true w.if-marks-j.true
      w.parent_before-parent.result w.parent_before-parent.ensures w.copy_parent.new.work w.copy_parent.ensures w.link_above-above.result w.link_above-above.ensures
      w.refresh_link-turn.new.block _ w.refresh_link-turn.ensures.turn (ap is_ok w.in_ok-turn.was)
      c.dofs-start.result c.dofs-start.ensures c.if-marks-j.work w.work-is c.if-marks-j.links w.links-is
  | else-marks-j w ↦
      rw (w.links-is, w.work-is)
      (held_skip c.args.links.now c.args.n c.requires c.told-links (marked c.args.marks.now) c.args.tables.now c.args.work.now (omega arith)
      c.loop-j.j c.loop-j.start c.loop-j.work c.loop-j.links c.loop-j.invariant c.loop-j-test.true w.if-marks-j.false c.dofs-start.result c.dofs-start.ensures)
]

pub returns-clause-worked : goal.returns-clause-worked
returns-clause-worked c =
    let e : c.loop-j.j ≡ c.args.n = omega arith in
    held_all c.args.links.now c.args.n c.requires c.told-links (marked c.args.marks.now) c.args.tables.now c.args.work.now (omega arith)
    c.loop-j.start c.loop-j.work c.loop-j.links (rw e at c.loop-j.invariant)
