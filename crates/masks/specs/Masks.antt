-- Masks of a joint, locked, limit and motor: bit 0 is X, bit 1 is Y, bit 2 the angle. Bits above 2 never count.
use Rattle.std.specs.Prelude.{ℕ, zero, suc, ◌+◌, ◌/◌, ◌%◌, ◌^◌, Bool, true, false, not, cond, ◌&&◌, List, [], ◌∷◌, ◌++◌, leb, eqb, Float}
use Rattle.std.specs.Float.{binary32}
use Rattle.std.specs.Float.Ieee.{of_bits}

-- a mask is at most 7
abbrev pub is_mask : ℕ → Bool
is_mask mask = leb mask 7

-- an axis is at most 2
abbrev pub is_axis : ℕ → Bool
is_axis axis = leb axis 2

-- the mask's bit of an axis is set
unfoldable pub bit_of : ℕ → ℕ → Bool
bit_of mask axis = eqb (mask / 2 ^ axis % 2) 1

-- it is one of the three axes, and the locked mask's bit is clear
unfoldable pub is_free : ℕ → ℕ → Bool
is_free mask axis = is_axis axis && not (bit_of mask axis)

-- 1 if it holds, else 0
abbrev pub one : Bool → ℕ
one true = 1
one false = 0

-- the DoFs below an axis: one for each free axis
unfoldable pub dofs_below : ℕ → ℕ → ℕ
dofs_below mask zero = 0
dofs_below mask (suc axis) = dofs_below mask axis + one (is_free mask axis)

-- the DoFs of a mask
unfoldable pub dofs_of : ℕ → ℕ
dofs_of mask = dofs_below mask 3

-- the default damping of a DoF on an axis: 0.1 on the angle, else +0
unfoldable pub damping_of : ℕ → Float
damping_of axis = cond (eqb axis 2) (of_bits binary32 0x3DCC_CCCD) (of_bits binary32 0)

-- the default damping of each free axis below an axis, rising
unfoldable pub damping_below : ℕ → ℕ → List Float
damping_below mask zero = []
damping_below mask (suc axis) = damping_below mask axis ++ cond (is_free mask axis) (damping_of axis ∷ []) []

-- the default damping row of a mask
unfoldable pub damping_row : ℕ → List Float
damping_row mask = damping_below mask 3

-- the velocity constraints of an axis, if it is free: one for its limit bit, one more for its motor bit
unfoldable pub constraints_at : ℕ → ℕ → ℕ → ℕ → ℕ
constraints_at locked limit motor axis = one (is_free locked axis && bit_of limit axis) + one (is_free locked axis && bit_of motor axis)

-- the velocity constraints of a joint
unfoldable pub constraints_of : ℕ → ℕ → ℕ → ℕ
constraints_of locked limit motor = constraints_at locked limit motor 0 + constraints_at locked limit motor 1 + constraints_at locked limit motor 2
