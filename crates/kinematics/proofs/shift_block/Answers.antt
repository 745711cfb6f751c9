-- `shift_block`: column by column. Assumes nothing.
use Rattle.std.proofs.Common.{◌≡◌, ◌∙◌, ap, refl, arith, ℕ}
use Rattle.std.specs.Float.Ieee.{neg}
use Rattle.limits.specs.Limits.{dof_limit}
use Rattle.kinematics.specs.Blocks.{plus_times, shifted}
use Rattle.kinematics.proofs.Shift.{columns_none, columns_more, columns_done, columns_to}
use Rattle.kinematics.proofs.shift_block.Goals as goal

pub loop-c-init : goal.loop-c-init
loop-c-init c = columns_none (plus_times (neg c.args.shift.y)) (plus_times c.args.shift.x) c.args.block.now (omega arith)

pub loop-c-preserved : goal.loop-c-preserved
loop-c-preserved c =
    columns_more (plus_times (neg c.args.shift.y)) (plus_times c.args.shift.x) c.args.block.now (omega arith) c.loop-c.c (omega arith) c.loop-c.block c.loop-c.invariant _ refl _ refl

pub returns : goal.returns
unfolding shifted
returns c =
    let b = c.args.block.now in
    let f = plus_times (neg c.args.shift.y) in
    let g = plus_times c.args.shift.x in
    let e : c.loop-c.c ≡ dof_limit = omega arith in
    c.loop-c.invariant ∙ ap (λ (k : ℕ). columns_to f g k b) e ∙ columns_done f g b (omega arith)
