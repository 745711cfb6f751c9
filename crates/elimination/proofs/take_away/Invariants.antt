-- `take_away`: the first j entries are done, the rest is as it was.
use Rattle.std.proofs.Common.{◌≡◌}
use Rattle.floats.proofs.Rows.{zipped}
use Rattle.elimination.specs.Elimination.{less}
use Rattle.elimination.proofs.take_away.Given as goal

abbrev pub invariant-loop-j : goal.invariant-loop-j
invariant-loop-j l = l.row ≡ zipped (less l.factor) l.j l.initial.row l.pivot
