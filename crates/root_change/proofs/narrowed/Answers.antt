-- `narrowed`: the rest of the row, and zeros behind it. Assumes nothing.
use borrow.Author.Rules.{rules}
use Rattle.root_change.proofs.Changed.{is_narrowed}
use Rattle.root_change.proofs.narrowed.Goals as goal

pub returns : goal.returns
returns c = is_narrowed c.args.row.now (search rules) _ c.copy_from_slice.ensures.after
