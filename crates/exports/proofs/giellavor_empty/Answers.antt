-- `giellavor_empty`: the empty arm, beside what clearing the tables answers. Assumes nothing.
use Rattle.full_working.proofs.Cleared.{emptied_by}
use Rattle.exports.proofs.giellavor_empty.Goals as goal

pub returns : goal.returns
returns c = rw c.of.ensures (emptied_by c.args.tables.now _ _ c.clear_tables-answer.ensures _ c.empty.ensures)
