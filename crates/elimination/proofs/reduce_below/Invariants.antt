-- `reduce_below`: the rows done, with the rows that are left, give all rows below.
use Rattle.std.proofs.Common.{◌≡◌, ◌-◌, ◌+◌}
use Rattle.elimination.specs.Elimination.{reduced}
use Rattle.elimination.proofs.reduce_below.Given as goal

abbrev pub invariant-loop-i : goal.invariant-loop-i
invariant-loop-i l = reduced l.n l.k l.pivot (l.n - (l.k + 1)) (l.k + 1) l.initial.rows ≡ reduced l.n l.k l.pivot (l.n - l.i) l.i l.rows
