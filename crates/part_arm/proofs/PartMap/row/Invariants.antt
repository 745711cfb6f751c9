-- `row`: the entries of the links passed so far that go on stand in front, in order; they are no more than the entries passed. Assumes nothing.
use mathlib.Core.Path.{◌≡◌}
use Prim.Native.Nat.{◌≤◌, ◌*◌}
use Rattle.part_arm.specs.Inner.{seen_by}
use Rattle.arm.specs.Empty.{blank_row}
use Rattle.arm.specs.Arm.{start_at, links_of}
use Rattle.lists.proofs.Gathered.{Laid}
use Rattle.part_arm.proofs.Turns.{entries_turn}
use Rattle.part_arm.proofs.PartMap.row.Given as goal

abbrev pub invariant-loop-j : goal.invariant-loop-j
invariant-loop-j l = record {
  links : l.l-items ≡ links_of l.arm;
  begins : l.start ≡ start_at l.arm l.j;
  within : l.start ≤ 3 * l.j;
  behind : l.at ≤ l.start;
  so_far : Laid (entries_turn (seen_by l.self) l.arm l.row.entries) blank_row.entries l.j l.entries l.at;
}
