-- `all_unique`: the tags get fewer. Assumes nothing.
use Rattle.std.proofs.Common.{length}
use Rattle.arm.proofs.+all_unique.Given as goal

abbrev pub decreases-all_unique : goal.decreases-all_unique
decreases-all_unique l = length l.tags.now
