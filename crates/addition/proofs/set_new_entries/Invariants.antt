-- `set_new_entries`: the rows passed have their zeros. Assumes nothing.
use mathlib.Core.Path.{◌≡◌}
use Rattle.multibody_joint.specs.Joint.{zeros}
use Rattle.addition.specs.NewLink.{entries_set}
use Rattle.addition.proofs.Entries.{changed}
use Rattle.addition.proofs.set_new_entries.Given as goal

abbrev pub invariant-loop-row : goal.invariant-loop-row
invariant-loop-row l = l.rows ≡ changed (entries_set l.start l.n zeros) l.row-index l.initial.rows
