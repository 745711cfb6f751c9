-- `substitute`: the room is tested as the definition does; then the needed parts are handed on.
use Rattle.std.proofs.Common.{sym, ◌∙◌}
use Rattle.solve.proofs.Answers.{into_exit, substitute_on, substitute_fits}
use Rattle.solve.proofs.substitute.Goals as goal

pub returns-in_err-room_refusal : goal.returns-in_err-room_refusal
returns-in_err-room_refusal c =
    into_exit c.in_err-room_refusal.was (rw (← c.square_fits.ensures) c.room_refusal.ensures) c.args.n _ c.args.res.now _ c.from_residual.ensures.1

pub slice_bounds-substitute-end : goal.slice_bounds-substitute-end
slice_bounds-substitute-end c =
    let a = c.args in
    let fit = substitute_fits a.n a.factors.now a.swaps.now a.right.now a.res.now c.square_fits.result c.square_fits.ensures (sym c.in_ok-room_refusal.ensures) in
    sym fit.6

pub substitute-requires : goal.substitute-requires
substitute-requires c =
    let a = c.args in
    let fit = substitute_fits a.n a.factors.now a.swaps.now a.right.now a.res.now c.square_fits.result c.square_fits.ensures (sym c.in_ok-room_refusal.ensures) in
    (fit.0, fit.6, fit.7)

pub returns : goal.returns
returns c =
    let a = c.args in
    let fit = substitute_fits a.n a.factors.now a.swaps.now a.right.now a.res.now c.square_fits.result c.square_fits.ensures (sym c.in_ok-room_refusal.ensures) in
    c.substitute.ensures ∙ sym (substitute_on a.n a.factors.now a.swaps.now a.right.now a.res.now fit.0 fit.1 fit.3 fit.5 fit.7)
