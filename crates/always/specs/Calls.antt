-- The calls on an arm and its lent memory, and any number of them, one after the other.
use Rattle.std.specs.Prelude.{ℕ, List, [], ◌∷◌, Float}
use Rattle.multibody_joint.specs.declared.Spring.{Spring}
use Rattle.arm.specs.declared.RowName.{RowName}
use Rattle.arm.specs.declared.Arm.{Arm}
use Rattle.arm_edits.specs.declared.NewCoupling.{NewCoupling}
use Rattle.arm_edits.specs.Rows.{row_written}
use Rattle.arm_edits.specs.Springs.{arm_spring_set}
use Rattle.arm_edits.specs.Couplings.{coupling_added}
use Rattle.full_working.specs.Outcome.{Outcome, out}
use Rattle.full_working.specs.Full.{full_working}
use Rattle.one_link_move.specs.declared.Change.{Change}
use Rattle.one_link_move.specs.Move.{link_moved}
use Rattle.addition.specs.declared.NewLink.{NewLink}
use Rattle.addition.specs.Addition.{link_added}
use Rattle.whole_step.specs.Step.{whole_step}
use Rattle.root_change.specs.declared.Root.{Root}
use Rattle.root_change.specs.Root.{changed_root}

-- a call, with what the caller gives: any numbers, any floats
pub data Call : Type 0 where
  addition : NewLink → Call
  -- the row, the link, the axis, the value
  row_write : RowName → ℕ → ℕ → Float → Call
  -- the link, the axis, the spring
  spring : ℕ → ℕ → Spring → Call
  coupling : NewCoupling → Call
  -- the link, and what is set of it
  move : ℕ → Change → Call
  -- by dt
  step : Float → Call
  -- what the root becomes
  root_change : Root → Call
  -- the full working
  working : Call

-- what the call answers, and what the lent memory then holds: the definition that its contract cites
abbrev pub called : Arm → List Float → Call → Outcome
called a t (addition new) = link_added a t new
called a t (row_write name link axis value) = out (row_written a name link axis value) t
called a t (spring link axis s) = out (arm_spring_set a link axis s) t
called a t (coupling c) = out (coupling_added a c) t
called a t (move link change) = link_moved a t link change
called a t (step dt) = whole_step a t dt
called a t (root_change root) = changed_root a t root
called a t working = full_working a t

-- each call is handed the arm that the one before it returned, refused or not, and the memory as that left it
abbrev pub run : Outcome → List Call → Outcome
run o [] = o
run o (c ∷ cs) = run (called o.answer.arm o.memory c) cs
