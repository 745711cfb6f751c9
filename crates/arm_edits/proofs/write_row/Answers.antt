-- `write_row`: an accepted write's entry is stored in its row. Assumes nothing.
use Rattle.arm_edits.specs.Rows.{entry_set}
use Rattle.arm_edits.proofs.Stores.{entry_answered}
use Rattle.arm_edits.proofs.write_row.Goals as goal

pub returns : goal.returns
unfolding entry_set
returns c =
    entry_answered _ c.in_ok-write_refusal.was _ _ _ _ _ _ _ c.write_refusal.ensures c.number.ensures c.dof_at-at.ensures
