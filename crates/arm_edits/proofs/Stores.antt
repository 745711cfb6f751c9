-- An element's store is the edit that the definitions name; and so what an accepted edit leaves. Assumes nothing.
use lib.ListN.{get_or, set}
use Rattle.std.proofs.Common.{ℕ, ◌≡◌, ◌∙◌, ap, refl, Result, Ok}
use lib.Ieee.{Float}
use Rattle.lists.proofs.Modified.{set-modify}
use Rattle.refusal.specs.declared.Refusal.{Refusal}
use Rattle.refusal.specs.Refusal.{code}
use Rattle.multibody_joint.specs.declared.Joint.{Joint}
use Rattle.multibody_joint.specs.declared.Spring.{Spring}
use Rattle.multibody_joint.specs.Springs.{spring_set}
use Rattle.arm.specs.declared.Link.{Link}
use Rattle.arm.specs.declared.Row.{Row}
use Rattle.arm.specs.declared.RowName.{RowName}
use Rattle.arm.specs.declared.Arm.{Arm}
use Rattle.arm.specs.declared.Edited.{Edited}
use Rattle.arm.specs.Arm.{row_number}
use Rattle.arm.specs.Setters.{with_joint, with_links, with_rows}
use Rattle.arm.specs.Edits.{edited_as, dof_at}
use Rattle.arm.proofs.Edits.{edited_passed}
use Rattle.arm_edits.specs.Rows.{write_refusal, entry_set, with_entry, row_written}
use Rattle.arm_edits.specs.Springs.{spring_refusal, link_spring_set, with_link_spring, arm_spring_set}

pub entry_stored : (a : Arm) (name : RowName) (link axis : ℕ) (value : Float) (k at : ℕ) (d row : Row) → k ≡ row_number name → at ≡ dof_at a link axis
    → row ≡ entry_set at value (get_or a.rows k d) → with_rows a (set a.rows k row) ≡ with_entry a name link axis value
unfolding with_entry
entry_stored a name link axis value k at d row p q e =
    ap (with_rows a) (set-modify (entry_set at value) a.rows k d row e) ∙ rw (p, q)

pub spring_stored : (a : Arm) (link axis : ℕ) (s : Spring) (d l : Link) → l ≡ link_spring_set axis s (get_or a.links link d)
    → with_links a (set a.links link l) ≡ with_link_spring a link axis s
unfolding with_link_spring
spring_stored a link axis s d l e = ap (with_links a) (set-modify (link_spring_set axis s) a.links link d l e)

abbrev answered : Arm → Edited
answered a = edited_as a (Ok tt)

module _ {A : Type 0} {t : Result A Refusal} {x : A} (a : Arm) (passes : t ≡ Ok x) where
  pub entry_answered : (name : RowName) (link axis : ℕ) (value : Float) (k at : ℕ) (d : Row) → code t ≡ write_refusal a link axis value → k ≡ row_number name
      → at ≡ dof_at a link axis → answered (with_rows a (set a.rows k (entry_set at value (get_or a.rows k d)))) ≡ row_written a name link axis value
  unfolding row_written
  entry_answered name link axis value k at d e p q = ap answered (entry_stored a name link axis value k at d _ p q refl) ∙ edited_passed passes e _ _

  pub spring_answered : (link axis : ℕ) (s : Spring) (d : Link) (joint : Joint) → code t ≡ spring_refusal a link axis s → joint ≡ spring_set (get_or a.links link d).joint axis s
      → answered (with_links a (set a.links link (with_joint (get_or a.links link d) joint))) ≡ arm_spring_set a link axis s
  unfolding arm_spring_set link_spring_set
  spring_answered link axis s d joint e p =
      ap answered (spring_stored a link axis s d _ (ap (with_joint (get_or a.links link d)) p)) ∙ edited_passed passes e _ _
