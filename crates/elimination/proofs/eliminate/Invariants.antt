-- `eliminate`: the columns done, with those that are left, give the factors; at the end, and at a zero pivot, only the test of the rows is left.
use Rattle.std.proofs.Common.{◌≡◌, ◌-◌, take}
use Rattle.elimination.specs.Elimination.{columns, factored}
use Rattle.elimination.proofs.eliminate.Given as goal

abbrev pub invariant-loop-k : goal.invariant-loop-k
invariant-loop-k l = factored l.n l.initial.rows ≡ columns l.n (l.n - l.k) l.k l.rows (take l.k l.swaps)
