-- `set_new_entries`: zeros in each row, then the default damping in its row. Assumes nothing.
use mathlib.Core.Path.{◌≡◌}
use native.Mathlib.Omega.{arith}
use borrow.Author.Rules.{rules}
use lib.ListN.{length}
use Rattle.masks.proofs.Laws.{dofs_le}
use Rattle.multibody_joint.specs.Joint.{zeros}
use Rattle.addition.specs.NewLink.{entries_set}
use Rattle.addition.proofs.Entries.{damped, changed_more, rows_with_lem}
use Rattle.addition.proofs.set_new_entries.Goals as goal

pub set_entries-requires : goal.set_entries-requires
set_entries-requires c = (omega (arith, dofs_le c.args.mask, c.dofs-n.ensures), c.requires.1)

pub loop-row-preserved : goal.loop-row-preserved
loop-row-preserved c =
    let whole : length c.args.rows.now ≡ 5 = search rules in
    changed_more (entries_set c.args.start c.dofs-n.result zeros) c.loop-row.row-index c.args.rows.now c.loop-row.rows _ _ c.loop-row.invariant (omega arith) c.set_entries.ensures

pub set_entries-requires-2 : goal.set_entries-requires-2
set_entries-requires-2 c = (omega (arith, dofs_le c.args.mask, c.dofs-n.ensures), c.requires.1)

pub returns : goal.returns
returns c =
    let whole : length c.args.rows.now ≡ 5 = search rules in
    rows_with_lem c.args.rows.now c.args.mask c.args.start c.dofs-n.result c.number.result c.loop-row.row-index c.loop-row.rows c.default_damping.new.lent _ _
    c.dofs-n.ensures c.number.ensures (omega arith) c.loop-row.invariant
    (damped c.args.mask c.requires.0 _ _ (rw c.from.ensures at c.default_damping.ensures)) c.set_entries-2.ensures
