-- `change_root`: a refusal, or the working of the changed arm. Assumes nothing.
use mathlib.Core.Path.{◌≡◌, ap, ◌∙◌}
use mathlib.Core.List.{List}
use lib.Ieee.{Float}
use Rattle.std.proofs.Common.{Result, Ok}
use Rattle.refusal.specs.declared.Refusal.{Refusal}
use Rattle.refusal.specs.Refusal.{code}
use Rattle.arm.specs.declared.Arm.{Arm}
use Rattle.full_working.specs.Outcome.{Outcome, worked_all}
use Rattle.full_working.proofs.Exits.{worked_ok, worked_err}
use Rattle.full_working.proofs.Refused.{refused_exit, goes_past}
use Rattle.root_change.specs.declared.Root.{Root}
use Rattle.root_change.specs.Root.{root_changed, root_refusal, changed_root}
use Rattle.root_change.proofs.change_root.Goals as goal

past : (a new : Arm) (t : List Float) (root : Root) → new ≡ root_changed a root → {A : Type 0} {x : A} {s : Result A Refusal} → s ≡ Ok x → code s ≡ root_refusal a t root
    → (o : Outcome) → o ≡ worked_all a new t → o ≡ changed_root a t root
unfolding changed_root
past a new t root en p f o q = q ∙ ap (λ (b : Arm). worked_all a b t) en ∙ goes_past f a t p _

pub returns-in_err-root_refusal : goal.returns-in_err-root_refusal
unfolding changed_root
returns-in_err-root_refusal c = refused_exit c.root_refusal.ensures _ _ c.in_err-root_refusal.was _ c.from_residual.ensures.1 _

pub returns-in_err-work_all : goal.returns-in_err-work_all
returns-in_err-work_all c =
    past c.args.arm.now _ c.args.tables.now c.args.root c.root_changed-new.ensures c.in_ok-root_refusal.was c.root_refusal.ensures _
    (worked_err _ _ _ _ _ _ c.in_err-work_all.ensures _ c.from_residual-in_err-work_all.ensures.1)

pub returns : goal.returns
returns c =
    past c.args.arm.now _ c.args.tables.now c.args.root c.root_changed-new.ensures c.in_ok-root_refusal.was c.root_refusal.ensures _
    (worked_ok _ _ _ _ _ c.in_ok-work_all.ensures)
