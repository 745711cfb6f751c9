-- `forward`: the places done, then those that are left, are all.
use Rattle.std.proofs.Common.{◌≡◌, ◌-◌}
use Rattle.solve.specs.Solve.{forward}
use Rattle.solve.proofs.Factors.forward.Given as goal

abbrev pub invariant-loop-i : goal.invariant-loop-i
invariant-loop-i l = forward l.self.n l.self.rows.now l.self.n 0 l.initial.x ≡ forward l.self.n l.self.rows.now (l.self.n - l.i) l.i l.x
