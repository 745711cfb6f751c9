use Rattle.plugin.proofs.Rows.{written_more, written_none}
use native.Mathlib.Omega.{arith}
use Rattle.plugin.proofs.write_row.Goals as goal

pub loop-x-init : goal.loop-x-init
loop-x-init c = written_none _ _

pub loop-x-preserved : goal.loop-x-preserved
loop-x-preserved c =
    let l = c.loop-x in
    written_more _ _ _ l.at l.bytes l.invariant c.loop-x-test.true c.bits_of.result c.write_u32-at.result c.write_u32-at.new.out c.bits_of.ensures (omega arith) (omega arith) c.write_u32-at.ensures
