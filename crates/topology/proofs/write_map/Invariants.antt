-- `write_map`: two bytes for each link passed, and for each part how many links it has so far. Assumes nothing.
use Rattle.topology.proofs.Mapped.{Mapped}
use Rattle.topology.proofs.write_map.Given as goal

abbrev pub invariant-loop-j : goal.invariant-loop-j
invariant-loop-j l = Mapped l.of l.initial.map l.j l.map l.seen
