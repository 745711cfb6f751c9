-- A joint's springs: a stiffness and a rest for each axis, locked ones too.
use Rattle.std.specs.Prelude.{ℕ, Bool, cond, ◌&&◌, leb, get_or, set}
use Rattle.std.specs.Float.{nan}
use Rattle.floats.specs.Floats.{zero32, is_finite}
use Rattle.multibody_joint.specs.declared.Joint.{Joint}
use Rattle.multibody_joint.specs.declared.Spring.{Spring}
use Rattle.multibody_joint.specs.Joint.{with_springs}

-- there is no axis above 2
unfoldable pub spring_set : Joint → ℕ → Spring → Joint
spring_set j axis s = cond (leb axis 2) (with_springs j (set j.stiffness axis s.stiffness) (set j.rest axis s.rest)) j

unfoldable pub spring_of : Joint → ℕ → Spring
spring_of j axis =
    cond (leb axis 2)
    (record { stiffness = get_or j.stiffness axis nan; rest = get_or j.rest axis nan })
    (record { stiffness = zero32; rest = zero32 })

unfoldable pub spring_finite : Spring → Bool
spring_finite s = is_finite s.stiffness && is_finite s.rest
