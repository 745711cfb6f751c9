-- A call that is refused says its number, with the arm given for that, and leaves the memory; one that is not goes on. Assumes nothing.
use Prim.Native.Nat.{ℕ, zero, suc}
use mathlib.Core.Path.{◌≡◌, refl, sym, ap, ◌∙◌}
use mathlib.Core.List.{List}
use lib.Ieee.{Float}
use Rattle.arm.specs.declared.Arm.{Arm}
use Rattle.std.specs.Prelude.{Result, Ok, Err, IsErrAnd}
use Rattle.refusal.specs.declared.Refusal.{Refusal}
use Rattle.refusal.specs.Refusal.{number, code, unless_of}
use Rattle.limits.specs.Limits.{table_size}
use Rattle.kinematics.proofs.Refused.{test_holds}
use borrow.Author.Tests.{leb-true}
use mathlib.Core.Bool.{Bool, true}
use lib.ListN.{length}
use Prim.Native.Nat.{◌≤◌}
use Rattle.refusal.proofs.Number.{number_positive}
use Rattle.arm.specs.Edits.{edited_as}
use Rattle.full_working.specs.Outcome.{Outcome, out, says, unless_refused, tables_fit}

module _ {n m : ℕ} (e : n ≡ m) (a : Arm) (t : List Float) where
  pub refused : (n ≡ 0 → ⊥) → (next : Outcome) → says n a t ≡ unless_refused m a t next
  unfolding unless_refused
  refused h next = go n h ∙ ap (λ (k : ℕ). unless_refused k a t next) e
    where
      go : (k : ℕ) → (k ≡ 0 → ⊥) → says k a t ≡ unless_refused k a t next
      go zero g = absurd (g refl)
      go (suc k) g = refl

  pub goes_on : n ≡ 0 → (next : Outcome) → next ≡ unless_refused m a t next
  unfolding unless_refused
  goes_on h next = ap (λ (k : ℕ). unless_refused k a t next) (sym h ∙ e)

-- ---- the exit of a `?`, and past it: t is what the call's own refusal gave

module _ {A : Type 0} {t : Result A Refusal} {k : ℕ} (e : code t ≡ k) (a : Arm) (m : List Float) where
  pub refused_exit : {y : Refusal} → t ≡ Err y → (r : Result Unit Refusal) → IsErrAnd r (λ z. z ≡ y) → (next : Outcome) → out (edited_as a r) m ≡ unless_refused k a m next
  refused_exit {y} p (Ok u) q next = absurd q
  refused_exit {y} p (Err z) q next = refused (ap number q ∙ sym (ap code p) ∙ e) a m (number_positive z) next

  pub goes_past : {x : A} → t ≡ Ok x → (next : Outcome) → next ≡ unless_refused k a m next
  goes_past p next = goes_on e a m (ap code p) next

-- past a test of the tables' memory that memory is long enough
pub fits_past : (m : List Float) (b : Bool) → b ≡ tables_fit m → {t : Result Unit Refusal} {x : Unit} → code t ≡ unless_of b 1 → t ≡ Ok x → (tables_fit m ≡ true) × (table_size ≤ length m)
fits_past m b f e p =
    let h : tables_fit m ≡ true = sym f ∙ test_holds 0 b e p in
    (h, leb-true table_size (length m) h)
