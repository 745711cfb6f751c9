-- `quarter_turns`: the count lies from k on and below k + size; a test at the middle says in which half. Assumes nothing.
use Prim.Native.Nat.{◌+◌, ◌≤◌, ◌<◌}
use Rattle.planar.specs.Rotation.{quarter_turns}
use Rattle.planar.proofs.quarter_turns.Given as goal

abbrev pub invariant-loop-size : goal.invariant-loop-size
invariant-loop-size l = (l.size ≤ 186) × (l.k ≤ 163) × (l.k ≤ quarter_turns l.a) × (quarter_turns l.a < l.k + l.size)

abbrev pub decreases-loop-size : goal.decreases-loop-size
decreases-loop-size l = l.size
