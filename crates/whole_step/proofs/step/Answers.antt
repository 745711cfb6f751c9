-- `step`: a refusal, or the working of the integrated arm. Assumes nothing.
use mathlib.Core.Path.{◌≡◌, ap, ◌∙◌}
use mathlib.Core.List.{List}
use lib.Ieee.{Float}
use Rattle.std.proofs.Common.{Result, Ok}
use Rattle.refusal.specs.declared.Refusal.{Refusal}
use Rattle.refusal.specs.Refusal.{code}
use Rattle.arm.specs.declared.Arm.{Arm}
use Rattle.full_working.specs.Outcome.{Outcome, worked_all}
use Rattle.full_working.proofs.Exits.{worked_ok, worked_err}
use Rattle.full_working.proofs.Refused.{refused_exit, goes_past}
use Rattle.whole_step.specs.Step.{arm_after, step_refusal, whole_step}
use Rattle.whole_step.proofs.step.Goals as goal

pub returns-in_err-step_refusal : goal.returns-in_err-step_refusal
unfolding whole_step
returns-in_err-step_refusal c =
    refused_exit (rw c.step_arm.ensures at c.step_refusal.ensures) _ _ c.in_err-step_refusal.was _ c.from_residual.ensures.1 _

module _ (a new : Arm) (t : List Float) (dt : Float) (en : new ≡ arm_after a dt) {A : Type 0} {x : A} {s : Result A Refusal} (p : s ≡ Ok x)
    (f : code s ≡ step_refusal a new t dt) where
  past : (o : Outcome) → o ≡ worked_all a new t → o ≡ whole_step a t dt
  unfolding whole_step
  past o q = q ∙ ap (λ (b : Arm). worked_all a b t) en ∙ goes_past (rw en at f) a t p _

pub returns-in_err-work_all : goal.returns-in_err-work_all
returns-in_err-work_all c =
    past c.args.arm.now _ c.args.tables.now c.args.dt c.step_arm.ensures c.in_ok-step_refusal.was c.step_refusal.ensures _
    (worked_err _ _ _ _ _ _ c.in_err-work_all.ensures _ c.from_residual-in_err-work_all.ensures.1)

pub returns : goal.returns
returns c =
    past c.args.arm.now _ c.args.tables.now c.args.dt c.step_arm.ensures c.in_ok-step_refusal.was c.step_refusal.ensures _
    (worked_ok _ _ _ _ _ c.in_ok-work_all.ensures)
