-- `eliminate_column`: the pivot row is read, the rows are swapped, and those below are reduced: the column, by its definition.
use Rattle.std.proofs.Common.{◌∙◌}
use Rattle.elimination.proofs.Rows.{row_read}
use Rattle.elimination.proofs.eliminate_column.Goals as goal

pub swap_rows-requires : goal.swap_rows-requires
swap_rows-requires c =
    let e = row_read c.args.n c.args.p c.args.rows.now c.args.pivot.now c.requires.1 c.requires.2 c.requires.3 in
    (c.requires.0, c.requires.1, c.requires.2, c.copy_part.auto.to ∙ c.requires.3, c.copy_part.ensures ∙ e)

pub returns : goal.returns
returns c =
    cc (row_read c.args.n c.args.p c.args.rows.now c.args.pivot.now c.requires.1 c.requires.2 c.requires.3)
