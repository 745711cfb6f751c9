use Rattle.refusal.proofs.Codes.{lowest_more}
use Rattle.refusal.proofs.lowest.Goals as goal

pub loop-test-preserved : goal.loop-test-preserved
loop-test-preserved c = lowest_more _ _ _ _ c.loop-test-test.true c.loop-test.invariant c.lower-low.ensures
