-- The memories that are lent for J and WJ.
use Rattle.std.specs.Prelude.{◌≡◌}
use Rattle.unit_multibody_joint.specs.declared.Lent.{Lent}

-- they are the same places as before, whatever they then hold
abbrev pub SamePlaces : Lent → Lent → Type 0
SamePlaces before after = (after.j.ghost_name ≡ before.j.ghost_name) × (after.wj.ghost_name ≡ before.wj.ghost_name)
