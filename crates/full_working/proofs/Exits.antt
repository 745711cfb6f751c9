-- The exit of a `?` on a pass, where r is what is given there: 12, or what the working of every link of a new arm answered, with the arm given for that.
-- Assumes nothing.
use Prim.Native.Nat.{ℕ}
use mathlib.Core.Path.{◌≡◌, refl, ap, ◌∙◌}
use mathlib.Core.Bool.{Bool, true, false, cond}
use mathlib.Core.List.{List}
use native.Mathlib.Omega.{arith}
use lib.Ieee.{Float}
use Rattle.std.proofs.Common.{Result, Ok, Err}
use Rattle.std.specs.Result.{IsErrAnd}
use Rattle.refusal.specs.declared.Refusal.{Refusal}
use Rattle.refusal.specs.declared.Refusal.TheVariants.{Overflow}
use Rattle.refusal.specs.Refusal.{number, code}
use Rattle.refusal.proofs.Number.{number_positive}
use Rattle.arm.specs.Setters.{with_links}
use Rattle.arm.specs.Edits.{edited_as}
use Rattle.arm.specs.declared.Arm.{Arm}
use Rattle.kinematics.specs.Answers.{Outcome as Pass, refresh_all}
use Rattle.full_working.specs.Outcome.{Outcome, out, says, worked_by, worked_all}

pub overflown : {A : Type 0} {e : Refusal} → e ≡ Overflow → (r : Result A Refusal) → IsErrAnd r (λ y. y ≡ e) → code r ≡ 12
overflown h (Ok x) q = absurd q
overflown h (Err y) q = rw (q, h)

-- ---- the working of a new arm b, which is answered for the arm a that came

module _ (a b : Arm) (t : List Float) (x : Arm) (m : List Float) where
  abbrev passed : Pass
  passed = refresh_all b.links b.link_count t

  -- what is answered, by the test of the results
  abbrev by_test : Arm → Bool → Outcome
  by_test c f = out (cond f (record { refusal = 0; arm = with_links b passed.answer.links }) (record { refusal = 12; arm = c })) passed.memory

  each : (k : ℕ) (f : Bool) → says k x m ≡ by_test b f → (k ≡ 0 → says k x m ≡ by_test a f) × ((k ≡ 0 → ⊥) → says k a m ≡ by_test a f)
  each k true e = (λ z. e, λ z. absurd (z (ap (λ (o : Outcome). o.answer.refusal) e)))
  each k false e = (
    λ z. (let h : k ≡ 12 = ap (λ (o : Outcome). o.answer.refusal) e in absurd (omega arith)),
    λ z. ap (λ (o : Outcome). says o.answer.refusal a o.memory) e,
  )

  told : (k : ℕ) → says k x m ≡ worked_all b b t → (k ≡ 0 → says k x m ≡ worked_all a b t) × ((k ≡ 0 → ⊥) → says k a m ≡ worked_all a b t)
  unfolding worked_all worked_by
  told k e = each k passed.answer.fine e

  pub worked_ok : says 0 x m ≡ worked_all b b t → says 0 x m ≡ worked_all a b t
  worked_ok e = (told 0 e).0 refl

  pub worked_err : (y : Refusal) → says (number y) x m ≡ worked_all b b t → (r : Result Unit Refusal) → IsErrAnd r (λ z. z ≡ y) → out (edited_as a r) m ≡ worked_all a b t
  worked_err y e (Ok u) q = absurd q
  worked_err y e (Err z) q = ap (λ (s : Refusal). says (number s) a m) q ∙ (told (number y) e).1 (number_positive y)
