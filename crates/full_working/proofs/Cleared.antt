-- An empty arm beside tables that were cleared, or refused. Assumes nothing.
use Rattle.std.proofs.Common.{ℕ, ◌≡◌, ◌∙◌, refl, ap, Bool, true, false, cond, List, Float, Result, Ok, Err}
use Rattle.std.specs.Result.{IsErrAnd}
use Rattle.refusal.specs.declared.Refusal.{Refusal}
use Rattle.refusal.specs.Refusal.{number, code}
use Rattle.arm.specs.declared.Arm.{Arm}
use Rattle.arm.specs.Edits.{edited_as, made_as}
use Rattle.arm.specs.Empty.{empty_arm}
use Rattle.kinematics.specs.State.{cleared}
use Rattle.full_working.specs.Outcome.{Outcome, out, says, tables_fit}
use Rattle.full_working.specs.Empty.{emptied}
use Rattle.full_working.specs.Inner.{Cleared, cleared_as, tables_cleared}

abbrev with_empty : Cleared → Outcome
with_empty c = says c.refusal empty_arm c.memory

beside : (t : List Float) → with_empty (tables_cleared t) ≡ emptied t
unfolding emptied tables_cleared
beside t = go (tables_fit t)
  where
    go : (b : Bool) → with_empty (cond b (cleared_as 0 (cleared t)) (cleared_as 1 t)) ≡ cond b (says 0 empty_arm (cleared t)) (says 1 empty_arm t)
    go true = refl
    go false = refl

-- what C is told
pub emptied_by : (t m : List Float) (r : Result Unit Refusal) → cleared_as (code r) m ≡ tables_cleared t → (a : Arm) → a ≡ empty_arm → out (edited_as a r) m ≡ emptied t
emptied_by t m r e a q = rw q (ap with_empty e ∙ beside t)

-- the exit of a `?`, and past it
module _ (t m : List Float) {r : Result Unit Refusal} (e : cleared_as (code r) m ≡ tables_cleared t) where
  pub unmade_empty : {y : Refusal} → r ≡ Err y → (u : Result Arm Refusal) → IsErrAnd u (λ z. z ≡ y) → out (made_as u) m ≡ emptied t
  unmade_empty p (Ok x) q = absurd q
  unmade_empty p (Err z) q = rw q (rw p at (ap with_empty e ∙ beside t))

  pub made_empty : {x : Unit} → r ≡ Ok x → (a : Arm) → a ≡ empty_arm → out (made_as (Ok a)) m ≡ emptied t
  made_empty p a q = rw q (rw p at (ap with_empty e ∙ beside t))
