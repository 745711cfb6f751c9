-- `axis_row`: a refusal ends it; else the tests tell that all fits, and `constrain` gives the row.
use Rattle.std.proofs.Common.{sym, refl, ◌∙◌, length}
use Rattle.unit_multibody_joint.specs.Rows.{row_as, refused_row, row_answer}
use Rattle.unit_multibody_joint.specs.Answers.{axis_answer}
use Rattle.unit_multibody_joint.proofs.Accepted.{row_worked}
use Rattle.unit_multibody_joint.proofs.Answers.{some, exit_is, refused_first}
use Rattle.unit_multibody_joint.proofs.Rows.{unit_on}
use Rattle.unit_multibody_joint.proofs.axis_row.Goals as goal

pub returns-in_err-row_refusal-clause-answer : goal.returns-in_err-row_refusal-clause-answer
unfolding axis_answer row_answer
returns-in_err-row_refusal-clause-answer c =
    let was = c.in_err-row_refusal.was in
    let e = c.row_refusal.ensures in
    refused_first _ _ _ _ _ _ _ _ _ (some row_as refused_row (λ e. refl) was e) _ (exit_is row_as refused_row (λ e. refl) was e _ c.from_residual.ensures.1)

pub slice_bounds-constrain-end-2 : goal.slice_bounds-constrain-end-2
slice_bounds-constrain-end-2 c =
    let at = c.args.at in
    let lent = c.args.lent.now in
    let on = row_worked c.args.arm.now at.link at.axis c.args.wanted.finite c.args.wanted.ordered lent.mass.now (length lent.j.now) (length lent.wj.now) (sym c.in_ok-row_refusal.ensures)
    c.dof_count.result c.dof-dof.result c.unit.result c.dof_count.ensures c.dof-dof.ensures c.unit.ensures in
    sym on.1

pub constrain-requires : goal.constrain-requires
constrain-requires c =
    let at = c.args.at in
    let lent = c.args.lent.now in
    let on = row_worked c.args.arm.now at.link at.axis c.args.wanted.finite c.args.wanted.ordered lent.mass.now (length lent.j.now) (length lent.wj.now) (sym c.in_ok-row_refusal.ensures)
    c.dof_count.result c.dof-dof.result c.unit.result c.dof_count.ensures c.dof-dof.ensures c.unit.ensures in
    rw (on.1) (on.2, on.3, on.4, on.5, on.6)

pub returns-clause-answer : goal.returns-clause-answer
unfolding axis_answer
returns-clause-answer c =
    let at = c.args.at in
    let w = c.args.wanted in
    let lent = c.args.lent.now in
    let on = row_worked c.args.arm.now at.link at.axis w.finite w.ordered lent.mass.now (length lent.j.now) (length lent.wj.now) (sym c.in_ok-row_refusal.ensures)
    c.dof_count.result c.dof-dof.result c.unit.result c.dof_count.ensures c.dof-dof.ensures c.unit.ensures in
    c.constrain.ensures.answer
    ∙ unit_on w.bounds w.cfm_coeff _ c.dof_count.result _ c.dof-dof.result _ _ lent.mass.now lent.j.now lent.wj.now (sym c.in_ok-row_refusal.ensures) c.dof_count.ensures c.dof-dof.ensures on.0
