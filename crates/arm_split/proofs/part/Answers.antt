-- `part`: refused as defined, or worked out. Assumes nothing.
use mathlib.Core.Path.{◌∙◌}
use Rattle.arm_split.specs.Answers.{arm_part}
use Rattle.arm_split.proofs.Made.{unmade_by_tests, made, unmade, part_worked}
use Rattle.arm_split.proofs.part.Goals as goal

pub returns-in_err-new : goal.returns-in_err-new
unfolding arm_part
returns-in_err-new c = unmade_by_tests c.in_err-new.was c.unworked.ensures.refusal c.args.tables.now _ c.from_residual.ensures.1 _

pub returns-in_err-work_all : goal.returns-in_err-work_all
returns-in_err-work_all c =
    unmade _ _ c.args.tables.now _ _ c.work_all.ensures c.in_err-work_all.was _ c.from_residual-in_err-work_all.ensures.1
    ∙ part_worked c.args.arm.now c.args.s c.args.k c.args.tables.now c.in_ok-new.ensures.refusal _ c.in_ok-new.ensures.part

pub returns : goal.returns
returns c =
    made _ _ c.args.tables.now _ _ c.work_all.ensures c.in_ok-work_all.was
    ∙ part_worked c.args.arm.now c.args.s c.args.k c.args.tables.now c.in_ok-new.ensures.refusal _ c.in_ok-new.ensures.part
