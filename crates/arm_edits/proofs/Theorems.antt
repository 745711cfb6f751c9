-- Theorems about the edits: each refusal is the lowest of its list, and an accepted row write changes exactly the one entry. Assumes nothing.
use Prim.Native.Nat.{ℕ, ◌<◌}
use mathlib.Core.Path.{◌≡◌, refl, ap, ◌∙◌}
use mathlib.Core.List.{List, [], map}
use native.Mathlib.Omega.{arith}
use lib.ListN.{length, get_or, set, length-map}
use lib.Seq.{get_or-set_same, get_or-set_other}
use lib.Ieee.{Float, nan}
use Rattle.lists.proofs.Modified.{map-modify, modify_same, modify_other}
use Rattle.arm.specs.Sized.{Sized}
use Rattle.lists.specs.Lists.{modify}
use Rattle.refusal.specs.Refusal.{Lowest}
use Rattle.refusal.proofs.Laws.{is_lowest}
use Rattle.multibody_joint.specs.declared.Spring.{Spring}
use Rattle.arm.specs.declared.Row.{Row}
use Rattle.arm.specs.declared.RowName.{RowName}
use Rattle.arm.specs.declared.Arm.{Arm}
use Rattle.arm.specs.Arm.{row_number, entries_of, row_in}
use Rattle.arm.specs.Edits.{dof_at}
use Rattle.arm.specs.Words.{FreeAxis}
use Rattle.arm.proofs.Accepted.{live}
use Rattle.arm.proofs.Live.{links_live}
use Rattle.arm.proofs.Edits.{row-there, dof_in_row}
use Rattle.arm.proofs.Theorems.{accepted_made, dofs_apart}
use Rattle.arm_edits.specs.declared.NewCoupling.{NewCoupling}
use Rattle.arm_edits.specs.Springs.{spring_entries, spring_refusal}
use Rattle.arm_edits.specs.Couplings.{coupling_entries, coupling_refusal}
use Rattle.arm_edits.specs.Rows.{write_entries, write_refusal, entry_set, with_entry, row_written}
use Rattle.arm_edits.specs.Words.{OneEntry}
use Rattle.arm_edits.proofs.Accepted.{write_there, write_free}

-- ---- each refusal is the lowest of its list

pub write_lowest : (a : Arm) (link axis : ℕ) (v : Float) → Lowest (write_entries a link axis v) (write_refusal a link axis v)
unfolding write_refusal
write_lowest a link axis v = is_lowest (write_entries a link axis v)

pub set_spring_lowest : (a : Arm) (link axis : ℕ) (s : Spring) → Lowest (spring_entries a link axis s) (spring_refusal a link axis s)
unfolding spring_refusal
set_spring_lowest a link axis s = is_lowest (spring_entries a link axis s)

pub coupling_lowest : (a : Arm) (c : NewCoupling) → Lowest (coupling_entries a c) (coupling_refusal a c)
unfolding coupling_refusal
coupling_lowest a c = is_lowest (coupling_entries a c)

-- ---- an accepted row write

module _ (a : Arm) (sized : Sized a) (name : RowName) (link axis : ℕ) (v : Float) (z : write_refusal a link axis v ≡ 0) where
  abbrev new : Arm
  new = (row_written a name link axis v).arm

  made : new ≡ with_entry a name link axis v
  unfolding row_written
  made = accepted_made (write_refusal a link axis v) a (with_entry a name link axis v) z

  abbrev set_at : List Float → List Float
  set_at row = set row (dof_at a link axis) v

  -- the rows, each whole
  rows_new : map entries_of new.rows ≡ modify set_at (row_number name) (map entries_of a.rows)
  unfolding with_entry entry_set
  rows_new =
      ap (λ (b : Arm). map entries_of b.rows) made
      ∙ map-modify (entry_set (dof_at a link axis) v) entries_of set_at (λ (r : Row). refl) a.rows (row_number name)

  here : row_in new name ≡ set (row_in a name) (dof_at a link axis) v
  unfolding row_in
  here =
      ap (λ (rows : List (List Float)). get_or rows (row_number name) []) rows_new
      ∙ modify_same set_at (row_number name) (map entries_of a.rows) [] (omega (arith, length-map a.rows entries_of, sized.rows, row-there name))

  there : (other : RowName) → (row_number other ≡ row_number name → ⊥) → row_in new other ≡ row_in a other
  unfolding row_in
  there other h =
      ap (λ (rows : List (List Float)). get_or rows (row_number other) []) rows_new
      ∙ modify_other set_at (row_number name) (row_number other) (map entries_of a.rows) [] h

  in_row : dof_at a link axis < length (row_in a name)
  unfolding row_in
  in_row =
      omega
      (arith, sized.entries (row_number name) (row-there name), dof_in_row a link axis sized.links (live a link (write_there a link axis v z)) (write_free a link axis v z))

  -- exactly the one entry is changed
  pub write_one : OneEntry a name (dof_at a link axis) v new
  unfolding with_entry
  write_one = record {
    written = ap (λ (row : List Float). get_or row (dof_at a link axis) nan) here ∙ get_or-set_same (row_in a name) (dof_at a link axis) v nan in_row;
    other_places = λ k h. ap (λ (row : List Float). get_or row k nan) here ∙ get_or-set_other (row_in a name) (dof_at a link axis) k v nan h;
    other_rows = there;
    link_count = ap (λ (b : Arm). b.link_count) made;
    coupling_count = ap (λ (b : Arm). b.coupling_count) made;
    links = ap (λ (b : Arm). b.links) made;
    couplings = ap (λ (b : Arm). b.couplings) made;
  }

  asked : FreeAxis a link axis
  asked = record {
    link_there = omega (arith, live a link (write_there a link axis v z), links_live a sized.links);
    free = write_free a link axis v z;
  }

  -- by name: the entry of every other free axis stays
  pub write_others : (i x : ℕ) → FreeAxis a i x → ((i ≡ link) × (x ≡ axis) → ⊥)
      → get_or (row_in new name) (dof_at a i x) nan ≡ get_or (row_in a name) (dof_at a i x) nan
  write_others i x f h = write_one.other_places (dof_at a i x) (λ e. h (dofs_apart a i x link axis f asked e))
