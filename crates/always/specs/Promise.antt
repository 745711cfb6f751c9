-- Demand 3: after any calls nothing that is kept of an arm is stale, and a further move or addition touches no more than it must.
use Rattle.std.specs.Prelude.{ℕ, ◌≤◌, ◌<◌, ◌≡◌, List, length, Float}
use Rattle.arm.specs.Empty.{empty_arm}
use Rattle.limits.specs.Limits.{table_size}
use Rattle.topology.specs.declared.Split.{Split}
use Rattle.arm.specs.declared.Arm.{Arm}
use Rattle.kinematics.specs.Unused.{UnusedZero}
use Rattle.full_working.specs.Outcome.{Outcome, says}
use Rattle.full_working.specs.Full.{Settled}
use Rattle.full_working.specs.Empty.{emptied}
use Rattle.one_link.specs.Promise.{RestKept, Right}
use Rattle.one_link_move.specs.declared.Change.{Change}
use Rattle.one_link_move.specs.Change.{moved_inputs}
use Rattle.one_link_move.specs.Move.{move_refusal, link_moved}
use Rattle.one_link_move.specs.Promise.{AtOrBelow}
use Rattle.addition.specs.declared.NewLink.{NewLink}
use Rattle.addition.specs.NewLink.{added_inputs}
use Rattle.addition.specs.Addition.{add_refusal, link_added}
use Rattle.addition.specs.Promise.{IsAdded}
use Rattle.arm_split.specs.Answers.{arm_part}
use Rattle.always.specs.Calls.{Call, called, run}

-- what holds of an arm and its lent memory, whatever was called before
pub record NeverStale (a : Arm) (t : List Float) : Type 0 where
  -- poses, shifts and all floats of the tables are those of the full working of the arm as it is: that is not refused, and changes no bit
  pub settled : Settled a t
  -- unused places of the tables hold +0: blocks past the link count, and in a link's block every column that is no degree of freedom of a link at or above it
  pub unused : UnusedZero a.links a.link_count t
  -- a move of any link (`Right`): of a link that is neither the moved one nor below it, by the parents, it changes no bit, nor of its block; it is refused
  -- for its results exactly when the full working of the arm with the changed inputs would be; and where it isn't refused it leaves what that leaves
  pub move : (link : ℕ) (change : Change) → Right a t (move_refusal a t link change) (moved_inputs a link change) (AtOrBelow a link) (link_moved a t link change)
  -- it changes no row entry and no coupling, not of the links below either
  pub move_keeps : (link : ℕ) (change : Change) → RestKept a (link_moved a t link change).answer.arm
  -- an addition likewise: the added link is all that may change
  pub addition : (new : NewLink) → Right a t (add_refusal a t new) (added_inputs a new) (IsAdded a) (link_added a t new)
  pub addition_keeps : (new : NewLink) → RestKept a (link_added a t new).answer.arm
  -- a call that is refused, whichever it is, leaves the arm and the memory
  pub refused : (c : Call) → ((called a t c).answer.refusal ≡ 0 → ⊥) → ((called a t c).answer.arm ≡ a) × ((called a t c).memory ≡ t)

-- where a sequence of calls begins: with an empty arm over memory that is long enough; or again, with a part of a split of an arm so reached, handed out
-- over memory of its own
pub data Begins : Outcome → Type 0 where
  empty : (t : List Float) → table_size ≤ length t → Begins (emptied t)
  part : {o : Outcome} → Begins o → (calls : List Call) (s : Split) (k : ℕ) (t : List Float) → (arm_part (run o calls).answer.arm s k t).answer.refusal ≡ 0
      → Begins (arm_part (run o calls).answer.arm s k t)

-- after every finite sequence of calls, refused ones included; so after each call of one
abbrev pub Always : Type 0
Always = (o : Outcome) → Begins o → (calls : List Call) → NeverStale (run o calls).answer.arm (run o calls).memory

-- an empty arm over shorter memory is refused by 1, and the memory stays: no sequence begins there
abbrev pub Short : Type 0
Short = (t : List Float) → length t < table_size → emptied t ≡ says 1 empty_arm t
