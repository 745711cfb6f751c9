-- What the entry points answer: a refusal and a zero count, or 0 and what was counted.
use Rattle.std.specs.Prelude.{ℕ, ◌&&◌, List, [], ◌∷◌, leb, length, Float}
use Rattle.refusal.specs.declared.Counted.{Counted}
use Rattle.limits.specs.Limits.{link_limit}
use Rattle.refusal.specs.Refusal.{unless_of, lowest}
use Rattle.refusal.specs.Counted.{counted_of, Outcome, filled}
use Rattle.masks.specs.Masks.{is_mask, is_axis, one, is_free, dofs_below, dofs_of, damping_row, constraints_of}
use Rattle.masks.specs.Starts.{all_masks, starts_of, total_of}

-- `free_axis`: is an axis of a mask free, 1 or 0
unfoldable pub free_answer : ℕ → ℕ → Counted
free_answer mask axis = counted_of (lowest (unless_of (is_mask mask && is_axis axis) 5 ∷ [])) (one (is_free mask axis))

-- `dof_count`: the DoFs of a mask
unfoldable pub dofs_answer : ℕ → Counted
dofs_answer mask = counted_of (lowest (unless_of (is_mask mask) 5 ∷ [])) (dofs_of mask)

-- `dof_count_below`: the DoFs of a mask below an axis
unfoldable pub below_answer : ℕ → ℕ → Counted
below_answer mask axis = counted_of (lowest (unless_of (is_mask mask && is_axis axis) 5 ∷ [])) (dofs_below mask axis)

-- what refuses `starts`: too little room for a place a mask, more masks than an arm has links, one that is none
unfoldable pub starts_refusal : List ℕ → ℕ → ℕ
starts_refusal masks room =
    lowest
    (unless_of (leb (length masks) room) 1
    ∷ unless_of (leb (length masks) link_limit) 2
    ∷ unless_of (all_masks masks) 5
    ∷ [])

-- `starts`: the start of each mask of a bare list, and the total
unfoldable pub starts_answer : List ℕ → List ℕ → Outcome ℕ
starts_answer masks lent = filled (starts_refusal masks (length lent)) (total_of masks) (starts_of masks) lent

-- what refuses `default_damping`: too little room for a place a DoF, a mask that is none
unfoldable pub damping_refusal : ℕ → ℕ → ℕ
damping_refusal mask room = lowest (unless_of (leb (dofs_of mask) room) 1 ∷ unless_of (is_mask mask) 5 ∷ [])

-- `default_damping`: the default damping row, and its length
unfoldable pub damping_answer : ℕ → List Float → Outcome Float
damping_answer mask lent = filled (damping_refusal mask (length lent)) (dofs_of mask) (damping_row mask) lent

-- `num_velocity_constraints`: the velocity constraints of a joint
unfoldable pub constraints_answer : ℕ → ℕ → ℕ → Counted
constraints_answer locked limit motor =
    counted_of (lowest (unless_of (is_mask locked && is_mask limit && is_mask motor) 5 ∷ [])) (constraints_of locked limit motor)
