-- `constraints_at` counts the two bits of a free axis, by what `bit` ensures. Assumes nothing.
use Rattle.std.proofs.Common.{arith, not, ◌&&◌}
use Rattle.masks.specs.Masks.{constraints_at, is_free}
use Rattle.masks.proofs.Laws.{from_one, from_le, number_axis}
use Rattle.masks.proofs.constraints_at.Goals as goal

pub returns : goal.returns
unfolding constraints_at is_free
returns c = (
  rw (c.from.ensures, c.from-2.ensures, from_one, from_one, c.bit-moves.ensures, c.bit.ensures, c.bit-2.ensures, number_axis c.args.axis),
  let x = from_le (not c.bit-moves.result && c.bit.result) in
      let y = from_le (not c.bit-moves.result && c.bit-2.result) in
      omega arith,
)
