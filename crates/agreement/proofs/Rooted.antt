-- The root changed, of arms that agree: arms that agree, since a row's entries that count become the root's three and those that counted behind it.
-- Assumes nothing.
use Prim.Native.Nat.{ℕ, suc, ◌+◌, ◌-◌, ◌≤◌, ◌<◌}
use mathlib.Core.Path.{◌≡◌, refl, sym, ap, ap₂, ◌∙◌}
use mathlib.Core.Bool.{Bool, true, false, cond}
use mathlib.Core.Logic.{inl, inr}
use mathlib.Core.List.{List, [], ◌∷◌, ◌++◌, map, map-map}
use native.Mathlib.Omega.{arith}
use borrow.Author.Tests.{eqb-true, eqb-false}
use lib.Dec.{eqb}
use lib.ListN.{length, take, drop, get_or, replicate, length-drop}
use lib.Seq.{take-nil, take-take, take-append-le}
use lib.Ieee.{Float}
use Rattle.arm.proofs.Accepted.{accepted}
use Rattle.lists.proofs.Modified.{length-modify, take-modify, map-modify, map_modify_same}
use Rattle.arm.specs.Sized.{Sized}
use Rattle.lists.specs.Lists.{modify}
use Rattle.limits.specs.Limits.{link_limit, dof_limit}
use Rattle.floats.specs.Floats.{zero32}
use Rattle.masks.specs.Masks.{dofs_of}
use Rattle.masks.specs.Starts.{total_of}
use Rattle.masks.proofs.Laws.{fixed_dofs, free_dofs}
use Rattle.arm.specs.declared.Link.{Link}
use Rattle.arm.specs.declared.Row.{Row}
use Rattle.arm.specs.declared.Arm.{Arm}
use Rattle.arm.specs.Arm.{live_links, links_of, couplings_of, parent_of, locked_of, parents_of, masks_of, mask_at, dof_count_of, entries_to, rows_of, no_link}
use Rattle.arm.specs.HandedIn.{arm_refusal}
use Rattle.arm.specs.Agree.{Agree}
use Rattle.arm.proofs.Live.{masks_live, mask_there, dof_count_le}
use Rattle.root_change.specs.declared.Root.{Root}
use Rattle.root_change.specs.Root.{locked_by, root_link, widened, narrowed, root_row, root_mask, root_rows, root_changed}
use Rattle.root_change.proofs.Settled.{Kind, root_kind, kind_by, kinds, root_locked}
use Rattle.agreement.proofs.Rows.{of_rows}
use Rattle.agreement.proofs.Worked.{same_link, Workable, workable}

-- ---- one row

-- as `root_row` has it, of entries that count
abbrev rerooted : ℕ → ℕ → List Float → List Float
rerooted from to l = cond (eqb from to) l (cond (eqb to 0) (replicate 3 zero32 ++ l) (drop 3 l))

drop-front : (n : ℕ) (l : List Float) → take n (drop 3 l) ≡ drop 3 (take (suc (suc (suc n))) l)
drop-front n [] = take-nil n
drop-front n (x ∷ []) = take-nil n
drop-front n (x ∷ y ∷ []) = take-nil n
drop-front n (x ∷ y ∷ z ∷ l) = refl

-- d entries count before, and d' after
module _ (row : Row) (whole : length row.entries ≡ dof_limit) (d d' : ℕ) (few : d ≤ dof_limit) (few' : d' ≤ dof_limit) where
  wider : d' ≡ suc (suc (suc d)) → take d' (widened row).entries ≡ replicate 3 zero32 ++ take d row.entries
  unfolding widened
  wider e = rw e (ap (λ (l : List Float). zero32 ∷ zero32 ∷ zero32 ∷ l) (take-take d (dof_limit - 3) row.entries (omega arith)))

  narrower : d ≡ suc (suc (suc d')) → take d' (narrowed row).entries ≡ drop 3 (take d row.entries)
  unfolding narrowed
  narrower e =
      take-append-le d' (drop 3 row.entries) (replicate 3 zero32) (omega (arith, length-drop 3 row.entries))
      ∙ drop-front d' row.entries
      ∙ ap (λ (k : ℕ). drop 3 (take k row.entries)) (sym e)

  row_seen : (from to : ℕ) → Kind from → Kind to → d' + dofs_of from ≡ d + dofs_of to → take d' (root_row from to row).entries ≡ rerooted from to (take d row.entries)
  unfolding root_row
  row_seen from to kf kt e = go (eqb from to) refl (eqb to 0) refl
    where
      dofs : {m n : ℕ} → m ≡ n → dofs_of m ≡ dofs_of n
      dofs q = ap dofs_of q

      go : (same : Bool) → eqb from to ≡ same → (free : Bool) → eqb to 0 ≡ free
          → take d' (cond same row (cond free (widened row) (narrowed row))).entries ≡ cond same (take d row.entries) (cond free (replicate 3 zero32 ++ take d row.entries) (drop 3 (take d row.entries)))
      go true q free f = let k : d' ≡ d = omega (arith, dofs (eqb-true from to q)) in ap (λ (i : ℕ). take i row.entries) k
      go false q true f = elim (kinds from kf) [
        | inl f7 ↦ wider (omega (arith, dofs f7, dofs (eqb-true to 0 f), fixed_dofs, free_dofs))
        | inr f0 ↦ absurd (eqb-false from to q (f0 ∙ sym (eqb-true to 0 f)))
      ]
      go false q false f = elim (kinds to kt) [
        | inl t7 ↦ elim (kinds from kf) [
          | inl f7 ↦ absurd (eqb-false from to q (f7 ∙ sym t7))
          | inr f0 ↦ narrower (omega (arith, dofs f0, dofs t7, fixed_dofs, free_dofs))
        ]
        | inr t0 ↦ absurd (eqb-false to 0 f t0)
      ]

-- ---- the DoF count

first_total : (ms : List ℕ) (to : ℕ) → 0 < length ms → total_of (modify (λ (m : ℕ). to) 0 ms) + dofs_of (get_or ms 0 7) ≡ total_of ms + dofs_of to
unfolding modify total_of
first_total [] to h = absurd (omega arith)
first_total (m ∷ ms) to h = omega arith

-- ---- an arm

-- what a change that is not refused passed
pub record Passed (a : Arm) : Type 0 where
  pub some : 0 < a.link_count
  pub arm : arm_refusal a ≡ 0

module _ (a : Arm) (s : Sized a) (root : Root) (k : Passed a) where
  links_rooted : links_of (root_changed a root) ≡ modify (root_link root) 0 (links_of a)
  unfolding links_of root_changed
  links_rooted = take-modify (root_link root) (live_links a) a.links 0

  parents_rooted : parents_of (root_changed a root) ≡ parents_of a
  unfolding parents_of root_link
  parents_rooted = ap (map parent_of) links_rooted ∙ map_modify_same (root_link root) parent_of (λ l. refl) (links_of a) 0

  masks_rooted : masks_of (root_changed a root) ≡ modify (λ (m : ℕ). locked_by root) 0 (masks_of a)
  unfolding masks_of root_link
  masks_rooted = ap (map locked_of) links_rooted ∙ map-modify (root_link root) locked_of (λ (m : ℕ). locked_by root) (λ (l : Link). root_locked root l.joint) (links_of a) 0

  there : 0 < live_links a
  there = omega (arith, k.some)

  dofs_rooted : dof_count_of (root_changed a root) + dofs_of (root_mask a) ≡ dof_count_of a + dofs_of (locked_by root)
  unfolding dof_count_of mask_at
  dofs_rooted =
      ap₂ (λ (x y : ℕ). x + y) (ap total_of masks_rooted) (ap dofs_of (mask_there a s.links 0 no_link there))
      ∙ first_total (masks_of a) (locked_by root) (omega (arith, masks_live a s.links, there))

  was_kind : Kind (root_mask a)
  was_kind = root_kind a s.links (λ z. omega (arith, k.some)) ∙ (accepted a k.arm).root

  rows_rooted : rows_of (root_changed a root) ≡ map (rerooted (root_mask a) (locked_by root)) (rows_of a)
  unfolding rows_of root_changed root_rows
  rows_rooted =
      let d' = dof_count_of (root_changed a root) in
      map-map (entries_to d') (root_row (root_mask a) (locked_by root)) a.rows
      ∙ of_rows a s (λ (row : Row). entries_to d' (root_row (root_mask a) (locked_by root) row)) (rerooted (root_mask a) (locked_by root)) (λ row whole.
      row_seen row whole (dof_count_of a) d' (dof_count_le a) (dof_count_le (root_changed a root)) (root_mask a) (locked_by root) was_kind (kind_by root) dofs_rooted)

  places_rooted : length (root_changed a root).links ≡ link_limit
  unfolding root_changed
  places_rooted = length-modify (root_link root) 0 a.links ∙ s.links

-- ---- two

module _ (a b : Arm) (s : Sized a) (r : Sized b) (g : Agree a b) (root : Root) (k : Passed a) (l : Passed b) where
  agree_rooted : Agree (root_changed a root) (root_changed b root)
  unfolding root_changed couplings_of
  agree_rooted = record {
    link_count = g.link_count;
    coupling_count = g.coupling_count;
    links = links_rooted a s root k ∙ ap (modify (root_link root) 0) g.links ∙ sym (links_rooted b r root l);
    couplings = g.couplings;
    rows =
        rows_rooted a s root k
        ∙ ap₂ (λ (x : Link) (rows : List (List Float)). map (rerooted x.joint.locked (locked_by root)) rows) (same_link a b g 0 (there a s root k)) g.rows
        ∙ sym (rows_rooted b r root l);
    rest = g.rest;
  }

  pub workable_rooted : Workable (root_changed a root) (root_changed b root)
  unfolding root_changed
  workable_rooted =
      workable a _ _ k.arm refl (parents_rooted a s root k) agree_rooted (places_rooted a s root k) (places_rooted b r root l)
