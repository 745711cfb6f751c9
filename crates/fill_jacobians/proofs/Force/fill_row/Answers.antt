use Rattle.std.proofs.Common.{arith, refl, length}
use Rattle.fill_jacobians.specs.Sums.{force_row}
use Rattle.fill_jacobians.proofs.Rows.{force_all, force_more}
use Rattle.fill_jacobians.proofs.Force.fill_row.Goals as goal

pub loop-c-init : goal.loop-c-init
unfolding force_row
loop-c-init c = refl

pub loop-c-preserved : goal.loop-c-preserved
loop-c-preserved c =
    let l = c.loop-c in
    force_more c.args.self.now c.args.block.now l.row l.c _ (omega arith) l.invariant c.along.ensures

pub returns : goal.returns
returns c =
    let a = c.args in
    let l = c.loop-c in
    force_all a.self.now a.block.now l.row l.c (length a.row.now) (omega arith) (omega arith) (omega arith) l.invariant
