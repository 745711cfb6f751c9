-- Arms are compared up to their counts, and so is what a call on an arm and its lent tables leaves of them.
use Rattle.std.specs.Prelude.{ℕ, ◌≡◌, List, Float}
use Rattle.arm.specs.Sized.{Sized}
use Rattle.topology.specs.declared.Split.{Split}
use Rattle.arm.specs.declared.Arm.{Arm}
use Rattle.arm.specs.Agree.{Agree, AlikeEdited}
use Rattle.full_working.specs.Outcome.{Outcome}
use Rattle.full_working.specs.Full.{full_working}
use Rattle.one_link_move.specs.declared.Change.{Change}
use Rattle.one_link_move.specs.Move.{link_moved}
use Rattle.addition.specs.declared.NewLink.{NewLink}
use Rattle.addition.specs.Addition.{link_added}
use Rattle.whole_step.specs.Step.{whole_step}
use Rattle.root_change.specs.declared.Root.{Root}
use Rattle.root_change.specs.Root.{changed_root}
use Rattle.arm_split.specs.Answers.{arm_split, arm_part}

-- the same refusal, arms that agree, the same memory
pub record Alike (x y : Outcome) : Type 0 where
  pub answer : AlikeEdited x.answer y.answer
  pub memory : x.memory ≡ y.memory

-- arms that agree, over the same tables, are left alike
abbrev pub Respects : (Arm → List Float → Outcome) → Type 0
Respects call = (a b : Arm) (t : List Float) → Sized a → Sized b → Agree a b → Alike (call a t) (call b t)

-- each call that works an arm out, by the definition that its contract cites; a split map and a part of a split, which hold nothing past the counts, are
-- the same
pub record AllRespect : Type 0 where
  pub full : Respects full_working
  pub move : (link : ℕ) (change : Change) → Respects (λ a t. link_moved a t link change)
  pub addition : (new : NewLink) → Respects (λ a t. link_added a t new)
  pub step : (dt : Float) → Respects (λ a t. whole_step a t dt)
  pub root : (root : Root) → Respects (λ a t. changed_root a t root)
  pub part : (s : Split) (k : ℕ) (t : List Float) (a b : Arm) → Sized a → Sized b → Agree a b → arm_part a s k t ≡ arm_part b s k t
  pub split : (s : Split) (m : List ℕ) (a b : Arm) → Agree a b → arm_split a s m ≡ arm_split b s m
