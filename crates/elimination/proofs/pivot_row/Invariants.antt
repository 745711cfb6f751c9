-- `pivot_row`: the row of greatest value so far, with the rows that are left, gives the pivot's row.
use Rattle.std.proofs.Common.{◌≡◌, ◌-◌, ◌≤◌, ◌<◌}
use Rattle.elimination.specs.Elimination.{absolute, entry, greatest, pivot_row}
use Rattle.elimination.proofs.pivot_row.Given as goal

abbrev pub invariant-loop-i : goal.invariant-loop-i
invariant-loop-i l = record {
  low : l.k ≤ l.p;
  high : l.p < l.n;
  value : l.greatest ≡ absolute (entry l.n l.p l.k l.rows);
  found : pivot_row l.n l.k l.rows ≡ greatest l.n l.k l.rows (l.n - l.i) l.i l.p;
}
