-- The addition of a coupling, at the end of the list. Its links and axes are any numbers; a locked axis passes.
use Rattle.std.specs.Prelude.{ℕ, ◌+◌, ◌&&◌, List, ◌∷◌, ltb, set}
use Rattle.arm.specs.Setters.{with_couplings}
use Rattle.limits.specs.Limits.{coupling_limit}
use Rattle.refusal.specs.Refusal.{unless_of, lowest}
use Rattle.floats.specs.Floats.{is_finite}
use Rattle.masks.specs.Masks.{is_axis}
use Rattle.arm.specs.declared.Coupling.{Coupling}
use Rattle.arm.specs.declared.Arm.{Arm}
use Rattle.arm.specs.declared.Edited.{Edited}
use Rattle.arm.specs.Arm.{is_link}
use Rattle.arm.specs.Edits.{edited}
use Rattle.arm.specs.HandedIn.{arm_entries}
use Rattle.arm_edits.specs.declared.NewCoupling.{NewCoupling}

-- 2: the list is full
abbrev pub coupling_entries : Arm → NewCoupling → List ℕ
coupling_entries a c =
    unless_of (ltb a.coupling_count coupling_limit) 2
    ∷ unless_of (is_link a c.link1 && is_link a c.link2) 4
    ∷ unless_of (is_axis c.axis1 && is_axis c.axis2) 5
    ∷ unless_of (is_finite c.coefficient && is_finite c.offset) 7
    ∷ arm_entries a

unfoldable pub coupling_refusal : Arm → NewCoupling → ℕ
coupling_refusal a c = lowest (coupling_entries a c)

abbrev pub coupling_of : NewCoupling → Coupling
coupling_of c = record {
  link1 = c.link1;
  axis1 = c.axis1;
  link2 = c.link2;
  axis2 = c.axis2;
  coefficient = c.coefficient;
  offset = c.offset;
}

unfoldable pub with_coupling : Arm → NewCoupling → Arm
with_coupling a c = with_couplings a (a.coupling_count + 1) (set a.couplings a.coupling_count (coupling_of c))

unfoldable pub coupling_added : Arm → NewCoupling → Edited
coupling_added a c = edited (coupling_refusal a c) a (with_coupling a c)
