-- `write_row`: the floats passed are written, and the position is behind them. Assumes nothing.
use Rattle.plugin.proofs.Rows.{Written}
use Rattle.plugin.proofs.write_row.Given as goal

abbrev pub invariant-loop-x : goal.invariant-loop-x
invariant-loop-x l = Written l.row l.initial.bytes l.x-index l.at l.bytes
