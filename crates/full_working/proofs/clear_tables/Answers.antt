-- `clear_tables`: tables that are long enough are cleared. Assumes nothing.
use Rattle.std.proofs.Common.{arith}
use Rattle.std.proofs.Math.Seq.{length-take-le}
use Rattle.limits.specs.Limits.{table_size}
use Rattle.full_working.specs.Inner.{tables_cleared}
use Rattle.full_working.proofs.Refused.{fits_past}
use Rattle.full_working.proofs.clear_tables.Goals as goal

pub slice_bounds-fill-end-2 : goal.slice_bounds-fill-end-2
slice_bounds-fill-end-2 c =
    let fits = fits_past c.args.tables.now _ c.tables_fit.ensures c.unless.ensures c.in_ok-unless.was in
    omega (arith, length-take-le table_size c.args.tables.now fits.1)

pub returns : goal.returns
unfolding tables_cleared
returns c =
    let fits = fits_past c.args.tables.now _ c.tables_fit.ensures c.unless.ensures c.in_ok-unless.was in
    rw (fits.0, c.fill.ensures.after (λ y e. e), length-take-le table_size c.args.tables.now fits.1)
