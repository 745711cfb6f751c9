-- `at_or_below`: the marks so far are right, and the rest is as made: false. Assumes nothing.
use Rattle.lists.proofs.Numbers.{Filled}
use mathlib.Core.Bool.{false}
use Rattle.limits.specs.Limits.{link_limit}
use Rattle.topology.specs.Parents.{at_or_below}
use lib.ListN.{replicate}
use Rattle.topology.proofs.at_or_below.Given as goal

abbrev pub invariant-loop-j : goal.invariant-loop-j
invariant-loop-j l = Filled (at_or_below l.parents l.link) (replicate link_limit false) l.j l.marks
