-- `bit`: a shift and an and are a division and a remainder. Assumes nothing.
use Prim.Native.Nat.{◌/◌, ◌^◌}
use lib.Bits.{and_mask}
use Rattle.masks.specs.Masks.{bit_of}
use Rattle.masks.specs.Axis.{axis_number}
use Rattle.masks.proofs.bit.Goals as goal

pub returns : goal.returns
unfolding bit_of
returns c = rw (c.number.ensures, and_mask (c.args.mask / 2 ^ axis_number c.args.axis) 1)
