-- `solve_any`: the room is tested as the definition does; then a buffer of either size gives the solution.
use Rattle.std.proofs.Common.{arith, sym}
use Rattle.solve.proofs.Answers.{into_exit, any_room}
use Rattle.solve.proofs.solve_any.Goals as goal

pub returns-in_err-room_refusal : goal.returns-in_err-room_refusal
returns-in_err-room_refusal c =
    into_exit c.in_err-room_refusal.was (rw (← c.square_fits.ensures) c.room_refusal.ensures) c.args.n _ c.args.res.now _ c.from_residual.ensures.1

pub solve_sized-requires : goal.solve_sized-requires
solve_sized-requires c =
    let a = c.args in
    let fit = any_room a.n a.matrix.now a.right.now a.res.now c.square_fits.result c.square_fits.ensures (sym c.in_ok-room_refusal.ensures) in
    (omega arith, omega arith, fit.1, fit.2, fit.3)
