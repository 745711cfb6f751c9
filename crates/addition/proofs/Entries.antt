-- What is set of an arm for a new link: its row entries and its mark. Assumes nothing.
use Prim.Native.Nat.{ℕ, zero, suc, ◌+◌, ◌≤◌, ◌<◌}
use native.Mathlib.Numerals.{add-one}
use mathlib.Core.Path.{◌≡◌, refl, ap, ◌∙◌}
use mathlib.Core.List.{List, [], ◌∷◌, ◌++◌, map}
use native.Mathlib.Omega.{arith}
use borrow.Author.Tests.{le-leb}
use lib.ListN.{length, get_or, set, take, drop}
use lib.Ieee.{Float}
use Rattle.lists.proofs.Modified.{set-modify}
use Rattle.lists.specs.Lists.{laid, modify}
use Rattle.refusal.specs.Counted.{Outcome, out, filled}
use Rattle.refusal.specs.declared.Counted.{Counted}
use Rattle.limits.specs.Limits.{link_limit, dof_limit}
use Rattle.refusal.specs.Refusal.{lower_of}
use Rattle.masks.specs.Masks.{dofs_of, damping_row}
use Rattle.masks.specs.Answers.{damping_refusal, damping_answer}
use Rattle.masks.proofs.Laws.{dofs_le}
use Rattle.masks.proofs.Totals.{total_le}
use Rattle.multibody_joint.specs.Joint.{zeros}
use Rattle.arm.specs.declared.Row.{Row}
use Rattle.arm.specs.declared.RowName.TheVariants.{Damping}
use Rattle.arm.specs.declared.Arm.{Arm}
use Rattle.arm.specs.Arm.{masks_of, dof_count_of, row_number}
use Rattle.arm.proofs.Live.{masks_live}
use Rattle.addition.specs.NewLink.{entries_set, rows_from}

-- ---- the default damping, at the front of three places

module _ (mask : ℕ) (h : mask ≤ 7) where
  none_refused : damping_refusal mask 3 ≡ 0
  unfolding damping_refusal lower_of
  none_refused = rw (le-leb (dofs_of mask) 3 (dofs_le mask), le-leb mask 7 h)

  pub damped : (r : Counted) (m : List Float) → out r m ≡ damping_answer mask zeros → m ≡ laid (damping_row mask) zeros
  unfolding damping_answer filled
  damped r m e =
      ap (λ (o : Outcome Float). o.memory) e
      ∙ ap (λ (k : ℕ). (filled k (dofs_of mask) (damping_row mask) zeros).memory) none_refused

-- ---- the rows, as a loop changes one after the other by f

module _ {A : Type 0} (f : A → A) where
  abbrev pub changed : ℕ → List A → List A
  changed i xs = map f (take i xs) ++ drop i xs

  changed_suc : (i : ℕ) (xs : List A) (d : A) → i < length xs → set (changed i xs) i (f (get_or (changed i xs) i d)) ≡ changed (suc i) xs
  changed_suc i [] d h = absurd (omega arith)
  changed_suc zero (x ∷ xs) d h = refl
  changed_suc (suc i) (x ∷ xs) d h = ap (λ (l : List A). f x ∷ l) (changed_suc i xs d (omega arith))

  pub changed_more : (i : ℕ) (xs l : List A) (d v : A) → l ≡ changed i xs → i < length xs → v ≡ f (get_or l i d) → set l i v ≡ changed (i + 1) xs
  changed_more i xs l d v e h p = rw (p, e, add-one) (changed_suc i xs d h)

  pub changed_all : (i : ℕ) (xs : List A) → length xs ≤ i → changed i xs ≡ map f xs
  changed_all zero [] h = refl
  changed_all (suc i) [] h = refl
  changed_all zero (x ∷ xs) h = absurd (omega arith)
  changed_all (suc i) (x ∷ xs) h = ap (λ (l : List A). f x ∷ l) (changed_all i xs (omega arith))

-- every row has its zeros, and the damping row its own
pub rows_with_lem : (given : List Row) (mask start n k i : ℕ) (rows : List Row) (values : List Float) (d v : Row) → n ≡ dofs_of mask → k ≡ row_number Damping
    → length given ≤ i → rows ≡ changed (entries_set start n zeros) i given → values ≡ laid (damping_row mask) zeros
    → v ≡ entries_set start n values (get_or rows k d) → set rows k v ≡ rows_from start mask given
rows_with_lem given mask start n k i rows values d v en ek h p ev q =
    set-modify (entries_set start n values) rows k d v q
    ∙ ap (modify (entries_set start n values) k) (p ∙ changed_all (entries_set start n zeros) i given h)
    ∙ (λ r. modify (entries_set start (en r) (ev r)) (ek r) (map (entries_set start (en r) zeros) given))

-- there is room for three entries more
pub room : (a : Arm) → length a.links ≡ link_limit → a.link_count < link_limit → dof_count_of a + 3 ≤ dof_limit
unfolding dof_count_of
room a w h = omega (arith, total_le (masks_of a), masks_live a w)
