-- `lay`: what was kept of the items passed stands in front, in order, and the count is theirs. Assumes nothing.
use Rattle.std.proofs.Common.{ℕ, ◌≤◌, List}
use Rattle.lists.proofs.Gathered.{Laid}
use Rattle.part_arm.specs.Inner.{Gives}
use Rattle.part_arm.proofs.lay.Given as goal

abbrev pub invariant-loop-j : goal.invariant-loop-j
invariant-loop-j g l = record {
  few : l.count ≤ l.j;
  so_far : (f : ℕ → List g.row.T.Denot) → Gives (goal.F-post g l.kept) l.items f → Laid f l.initial.to l.j l.to l.count;
}
