-- `backward`: the places done, then those that are left, are all.
use Rattle.std.proofs.Common.{◌≡◌, ◌≤◌, length}
use Rattle.solve.specs.Solve.{backward}
use Rattle.solve.proofs.Factors.backward.Given as goal

abbrev pub invariant-loop-i : goal.invariant-loop-i
invariant-loop-i l = record {
  low : l.i ≤ l.self.n;
  same : length l.x ≡ l.self.n;
  done : backward l.self.n l.self.rows.now l.self.n l.initial.x ≡ backward l.self.n l.self.rows.now l.i l.x;
}
