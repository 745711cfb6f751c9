-- `default_damping`: the answer over three floats, with their bytes for the floats. Assumes nothing.
use Rattle.plugin.proofs.Damping.{count_fits, count_taken, as_written, stays}
use mathlib.Core.List.{[]}
use Rattle.plugin.proofs.default_damping.Goals as goal

pub returns-in_err-n : goal.returns-in_err-n
returns-in_err-n c =
    let d = c.default_damping in
    stays _ _ c.min-room.result _ d.new.lent [] d.result c.min-room.ensures d.ensures _ c.in_err-n.was _ c.from_residual.ensures.1

pub slice_bounds-row-end-2 : goal.slice_bounds-row-end-2
slice_bounds-row-end-2 c =
    let d = c.default_damping in
    count_fits c.args.mask c.args.damping.now c.min-room.result _ d.new.lent _ d.result c.min-room.ensures d.ensures _ c.in_ok-n.was

pub slice_bounds-write_row-end : goal.slice_bounds-write_row-end
slice_bounds-write_row-end c =
    let d = c.default_damping in
    count_taken c.args.mask c.args.damping.now c.min-room.result _ d.new.lent _ d.result c.min-room.ensures d.ensures _ c.in_ok-n.was

pub returns : goal.returns
returns c =
    let d = c.default_damping in
    as_written _ _ c.min-room.result _ d.new.lent _ d.result c.min-room.ensures d.ensures _ c.in_ok-n.was _ c.write_row.ensures
