-- `factor`: the room is tested as the definition does; then the front of both lent slices is worked, and the rest stays.
use Rattle.std.proofs.Common.{sym}
use Rattle.elimination.proofs.Room.{factor_exit, factor_front, room_fits}
use Rattle.elimination.proofs.factor.Goals as goal

pub returns-in_err-room_refusal : goal.returns-in_err-room_refusal
returns-in_err-room_refusal c =
    factor_exit c.args.n c.args.rows.now c.args.swaps.now c.in_err-room_refusal.was (rw (← c.square_fits.ensures) c.room_refusal.ensures) _ c.from_residual.ensures.1

pub returns : goal.returns
returns c =
    let fit = room_fits c.args.n c.args.rows.now c.args.swaps.now c.square_fits.result c.square_fits.ensures (sym c.in_ok-room_refusal.ensures) in
    factor_front c.args.n c.args.rows.now c.args.swaps.now fit.5 _ _ _ c.factor_whole.ensures
