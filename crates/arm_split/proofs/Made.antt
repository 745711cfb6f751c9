-- What a call that makes an arm answers: refused by its tests, or by the pass, the number and an empty arm; else the arm that the pass left. Assumes nothing.
use Prim.Native.Nat.{ℕ}
use mathlib.Core.Path.{◌≡◌, refl, sym, ap, ◌∙◌}
use mathlib.Core.List.{List}
use lib.Ieee.{Float}
use Rattle.std.proofs.Common.{Result, Ok, Err}
use Rattle.std.specs.Result.{IsErrAnd}
use Rattle.refusal.specs.declared.Refusal.{Refusal}
use Rattle.refusal.specs.Refusal.{number, code}
use Rattle.refusal.proofs.Number.{number_positive}
use Rattle.arm.specs.declared.Arm.{Arm}
use Rattle.arm.specs.Empty.{empty_arm}
use Rattle.arm.specs.Edits.{edited_as, made_as}
use Rattle.full_working.specs.Outcome.{Outcome, out, unless_refused, worked_all}
use Rattle.full_working.proofs.Exits.{worked_ok, worked_err}
use Rattle.full_working.proofs.Refused.{refused, goes_on}
use Rattle.topology.specs.declared.Split.{Split}
use Rattle.part_arm.specs.Places.{places_of}
use Rattle.part_arm.specs.Part.{part_arm}
use Rattle.arm_split.specs.Answers.{part_refusal, arm_part}

-- at the exit of a `?` after the tests
pub unmade_by_tests : {A : Type 0} {t : Result A Refusal} {y : Refusal} {k : ℕ} → t ≡ Err y → code t ≡ k → (m : List Float) (r : Result Arm Refusal) → IsErrAnd r (λ z. z ≡ y)
    → (next : Outcome) → out (made_as r) m ≡ unless_refused k empty_arm m next
unmade_by_tests p e m (Ok a) q next = absurd q
unmade_by_tests p e m (Err z) q next = refused (ap number q ∙ sym (ap code p) ∙ e) empty_arm m (number_positive z) next

-- after the pass
module _ (new a : Arm) (t m : List Float) (r : Result Unit Refusal) (e : out (edited_as a r) m ≡ worked_all new new t) where
  pub made : {u : Unit} → r ≡ Ok u → out (made_as (Ok a)) m ≡ worked_all empty_arm new t
  made p = worked_ok empty_arm new t a m (rw p at e)

  pub unmade : {y : Refusal} → r ≡ Err y → (q : Result Arm Refusal) → IsErrAnd q (λ z. z ≡ y) → out (made_as q) m ≡ worked_all empty_arm new t
  unmade p (Ok b) h = absurd h
  unmade {y} p (Err z) h = worked_err empty_arm new t a m y (rw p at e) (Err z) h

-- what part k is once nothing is refused
pub part_worked : (a : Arm) (s : Split) (k : ℕ) (t : List Float) → 0 ≡ part_refusal a s k t → (new : Arm) → new ≡ part_arm (places_of a s k) a → worked_all empty_arm new t ≡ arm_part a s k t
unfolding arm_part
part_worked a s k t e new q = ap (λ (x : Arm). worked_all empty_arm x t) q ∙ goes_on e empty_arm t refl _
