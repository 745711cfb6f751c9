use Rattle.std.proofs.Common.{arith}
use lib.Ieee.{nan}
use Rattle.elimination.specs.Elimination.{less}
use Rattle.floats.proofs.Rows.{zipped_more}
use Rattle.elimination.proofs.take_away.Goals as goal

pub loop-j-preserved : goal.loop-j-preserved
loop-j-preserved c =
    zipped_more (less c.args.factor) c.loop-j.j c.args.row.now c.args.pivot.now nan c.loop-j.row c.loop-j.invariant (omega arith) (omega arith)
