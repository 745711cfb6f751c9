-- `row_part`: the view's part, by its place. Assumes nothing.
use Rattle.exports_views.proofs.Parts.{refused_part, seen_part}
use Rattle.exports_views.proofs.row_part.Goals as goal

pub returns-in-Ok : goal.returns-in-Ok
returns-in-Ok c = seen_part _ _ _ _ _ c.row_view.result c.row_view.ensures _ c.in-Ok.is _ c.start_of.ensures

pub returns-in-Err : goal.returns-in-Err
returns-in-Err c = refused_part _ _ _ _ _ c.row_view.result c.row_view.ensures _ c.in-Err.is _ c.number.ensures
