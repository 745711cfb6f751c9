-- The marked examples: questions with their answers, one table.
use Rattle.std.specs.Prelude.{ℕ, ◌*◌, ◌≡◌, List, [], ◌∷◌, ◌++◌, map, length, replicate, set}
use Rattle.std.specs.Float.{nan, binary32}
use Rattle.std.specs.Float.Ieee.{to_bits}
use Rattle.floats.specs.Floats.{f32, zero32, one32}
use Rattle.masks.specs.Masks.{dofs_of}
use Rattle.masks.specs.Answers.{starts_answer, damping_answer, constraints_answer}
use Rattle.planar.specs.Poses.{identity_pose, origin}
use Rattle.topology.specs.declared.Split.{Split}
use Rattle.topology.specs.declared.Split.TheVariants.{Delete, Cut}
use Rattle.topology.specs.Answers.{split_answer}
use Rattle.multibody_joint.specs.Joint.{new_joint}
use Rattle.arm.specs.declared.Arm.{Arm}
use Rattle.arm.specs.Setters.{arm_with, unplaced}
use Rattle.arm.specs.Empty.{empty_arm}
use Rattle.unit_multibody_joint.specs.declared.Limits.{Limits}
use Rattle.unit_multibody_joint.specs.Answers.{limit_answer}

pub data Question : Type 0 where
  -- a split of a list of parents
  split : List ℕ → Split → Question
  -- the starts of a bare list of masks
  starts : List ℕ → Question
  -- the default damping of a mask
  damping : ℕ → Question
  -- the constraint count of locked, limit and motor masks
  constraints : ℕ → ℕ → ℕ → Question
  -- the limit row of min, max, pos and erp_inv_dt, floats by their bits, on the one DoF of an arm whose mass matrix is 1
  limit_row : ℕ → ℕ → ℕ → ℕ → Question

-- an arm with one degree of freedom: a fixed root, and a link whose angle is free
abbrev pub finger : Arm
finger = arm_with empty_arm 2 0 (set empty_arm.links 1 (unplaced 1 0 (new_joint 3 4 0 identity_pose identity_pose) origin)) empty_arm.couplings empty_arm.rows

-- what is given of a limit, with no dt and no cfm_coeff
abbrev pub limits_of : ℕ → ℕ → ℕ → ℕ → Limits
limits_of min max pos erp = record { position = f32 pos; min = f32 min; max = f32 max; dt = zero32; erp_inv_dt = f32 erp; cfm_coeff = zero32 }

-- the answer as numbers: the refusal, the count or the row, then what lent memory of just the needed length holds; a float by its bits
unfoldable pub answer : Question → List ℕ
answer (split parents s) =
    let o = split_answer parents s (replicate (2 * length parents) 0) in
    o.answer.refusal ∷ o.answer.count ∷ o.memory
answer (starts masks) =
    let o = starts_answer masks (replicate (length masks) 0) in
    o.answer.refusal ∷ o.answer.count ∷ o.memory
answer (damping mask) =
    let o = damping_answer mask (replicate (dofs_of mask) nan) in
    o.answer.refusal ∷ o.answer.count ∷ map (to_bits binary32) o.memory
answer (constraints locked limit motor) =
    let a = constraints_answer locked limit motor in
    a.refusal ∷ a.count ∷ []
answer (limit_row min max pos erp) =
    let o = limit_answer finger 1 2 (limits_of min max pos erp) (one32 ∷ []) (nan ∷ []) (nan ∷ []) in
    let r = o.answer in
    r.refusal ∷ map (to_bits binary32) ((r.lower ∷ r.upper ∷ r.rhs ∷ r.cfm_gain ∷ r.inv_lhs ∷ []) ++ o.j ++ o.wj)

-- the parents of P1 to P5
abbrev pub A : List ℕ
A = 0 ∷ 0 ∷ 1 ∷ 1 ∷ 0 ∷ 3 ∷ []

-- a link's part and new number; both 255 where it is gone
abbrev pub link : ℕ → ℕ → List ℕ
link part number = part ∷ number ∷ []

abbrev pub gone : List ℕ
gone = link 255 255

-- of a limit row: cfm_gain is +0, inv_lhs 1, J and WJ are 1
abbrev pub gains : List ℕ
gains = 0 ∷ 0x3F80_0000 ∷ 0x3F80_0000 ∷ 0x3F80_0000 ∷ []

-- P1 to P11
abbrev pub marked : List (Question × List ℕ)
marked =
    (split A (Delete 1), 0 ∷ 3 ∷ link 0 0 ++ gone ++ link 1 0 ++ link 2 0 ++ link 0 1 ++ link 2 1)
    ∷ (split A (Cut 1), 0 ∷ 2 ∷ link 0 0 ++ link 1 0 ++ link 1 1 ++ link 1 2 ++ link 0 1 ++ link 1 3)
    ∷ (split A (Delete 0), 0 ∷ 2 ∷ gone ++ link 0 0 ++ link 0 1 ++ link 0 2 ++ link 1 0 ++ link 0 3)
    ∷ (split A (Delete 5), 0 ∷ 1 ∷ link 0 0 ++ link 0 1 ++ link 0 2 ++ link 0 3 ++ link 0 4 ++ gone)
    ∷ (split A (Cut 0), 0 ∷ 1 ∷ link 0 0 ++ link 0 1 ++ link 0 2 ++ link 0 3 ++ link 0 4 ++ link 0 5)
    ∷ (split (0 ∷ []) (Delete 0), 0 ∷ 0 ∷ gone)
    ∷ (starts (7 ∷ 3 ∷ 3 ∷ 0 ∷ []), 0 ∷ 5 ∷ 0 ∷ 0 ∷ 1 ∷ 2 ∷ [])
    ∷ (damping 0, 0 ∷ 3 ∷ 0 ∷ 0 ∷ 0x3DCC_CCCD ∷ [])
    ∷ (constraints 3 7 4, 0 ∷ 2 ∷ [])
    ∷ (limit_row 0 0x3F80_0000 0x4000_0000 0x4120_0000, 0 ∷ 0x8000_0000 ∷ 0x7F7F_FFFF ∷ 0x4120_0000 ∷ gains)
    ∷ (limit_row 0 0x3F80_0000 0x3F80_0000 0x4120_0000, 0 ∷ 0x8000_0000 ∷ 0 ∷ 0 ∷ gains)
    ∷ []

-- each question of a table has its answer
abbrev pub Hold : List (Question × List ℕ) → Type 0
Hold rows = map (λ row. answer row.0) rows ≡ map (λ row. row.1) rows
