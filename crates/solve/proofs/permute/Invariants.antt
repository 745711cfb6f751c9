-- `permute`: the swaps made, then those that are left, are all swaps.
use Rattle.std.proofs.Common.{◌≡◌, drop}
use Rattle.solve.specs.Solve.{permuted}
use Rattle.solve.proofs.permute.Given as goal

abbrev pub invariant-loop-k : goal.invariant-loop-k
invariant-loop-k l = permuted 0 l.swaps l.initial.x ≡ permuted l.k (drop l.k l.swaps) l.x
