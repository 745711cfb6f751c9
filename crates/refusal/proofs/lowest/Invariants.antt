-- `lowest`: what it has so far is the lowest of the tests before it. Assumes nothing.
use Rattle.std.proofs.Common.{◌≡◌, map, take}
use Rattle.refusal.specs.Refusal.{code, lowest}
use Rattle.refusal.proofs.lowest.Given as goal

abbrev pub invariant-loop-test : goal.invariant-loop-test
invariant-loop-test l = code l.low ≡ lowest (map code (take l.test-index l.tests))
