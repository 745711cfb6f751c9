-- `reduce_row`: the row with its factor at k, and the pivot row taken away from the part right of it.
use Rattle.std.proofs.Common.{refl}
use Rattle.elimination.specs.Elimination.{factor_of}
use Rattle.elimination.proofs.Reduced.{right_parts, row_law}
use Rattle.elimination.proofs.reduce_row.Goals as goal

pub take_away-requires : goal.take_away-requires
take_away-requires c =
    right_parts c.args.k c.args.row.now c.args.pivot.now _ c.requires.0 c.requires.1

pub returns : goal.returns
returns c =
    let k = c.args.k in
    let r = c.args.row.now in
    let p = c.args.pivot.now in
    let t = c.take_away in
    row_law k r p (factor_of k p r) c.requires.0 c.requires.1 t.new.row refl t.ensures
