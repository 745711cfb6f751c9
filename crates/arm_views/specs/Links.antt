-- What is read of a link's joint: a spring, and accelerations put on their axes.
use Rattle.std.specs.Prelude.{ℕ, zero, suc, List, ◌∷◌, map, leb, length, take, get_or, Float, Result, Ok, Err}
use Rattle.refusal.specs.declared.Refusal.{Refusal}
use Rattle.refusal.specs.Refusal.{number, unless_of, lowest}
use Rattle.floats.specs.Floats.{zero32, all_finite}
use Rattle.masks.specs.Masks.{is_axis, dofs_of}
use Rattle.multibody_joint.specs.declared.Spring.{Spring}
use Rattle.multibody_joint.specs.Springs.{spring_of}
use Rattle.multibody_joint.specs.Motion.{on_axes}
use Rattle.multibody_joint.specs.Joint.{zeros}
use Rattle.arm.specs.declared.Link.{Link}
use Rattle.arm.specs.declared.Arm.{Arm}
use Rattle.arm.specs.Arm.{is_link, links_of, mask_at}
use Rattle.arm.specs.HandedIn.{arm_entries}
use Rattle.arm_views.specs.declared.SpringAnswer.{SpringAnswer}
use Rattle.arm_views.specs.declared.AxesAnswer.{AxesAnswer}

-- f of a link that counts, d where there is no such link
abbrev pub of_link : {B : Type 0} → (Link → B) → B → Arm → ℕ → B
of_link f d a link = get_or (map f (links_of a)) link d

-- ---- the spring of an axis, locked or not

abbrev pub spring_entries : Arm → ℕ → ℕ → List ℕ
spring_entries a link axis = unless_of (is_link a link) 4 ∷ unless_of (is_axis axis) 5 ∷ arm_entries a

unfoldable pub spring_refusal : Arm → ℕ → ℕ → ℕ
spring_refusal a link axis = lowest (spring_entries a link axis)

abbrev pub no_spring : Spring
no_spring = record { stiffness = zero32; rest = zero32 }

abbrev pub spring_in : ℕ → Link → Spring
spring_in axis l = spring_of l.joint axis

-- refused: the number, and a spring of zeros
abbrev pub spring_by : ℕ → Spring → SpringAnswer
spring_by zero s = record { refusal = 0; spring = s }
spring_by (suc k) s = record { refusal = suc k; spring = no_spring }

-- what C is told of a spring
abbrev pub spring_as : Result Spring Refusal → SpringAnswer
spring_as (Ok s) = record { refusal = 0; spring = s }
spring_as (Err r) = record { refusal = number r; spring = no_spring }

unfoldable pub spring_answer : Arm → ℕ → ℕ → SpringAnswer
spring_answer a link axis = spring_by (spring_refusal a link axis) (of_link (spring_in axis) no_spring a link)

-- ---- `jacobian_mul_coordinates`: a float for each DoF of the link is needed, and read

abbrev pub link_dofs : Arm → ℕ → ℕ
link_dofs a link = dofs_of (mask_at a link)

abbrev pub mul_entries : Arm → ℕ → List Float → List ℕ
mul_entries a link accelerations =
    unless_of (leb (link_dofs a link) (length accelerations)) 1
    ∷ unless_of (is_link a link) 4
    ∷ unless_of (all_finite (take (link_dofs a link) accelerations)) 7
    ∷ arm_entries a

unfoldable pub mul_refusal : Arm → ℕ → List Float → ℕ
mul_refusal a link accelerations = lowest (mul_entries a link accelerations)

abbrev pub axes_in : List Float → Link → List Float
axes_in accelerations l = on_axes l.joint accelerations

-- refused: the number, and three zeros
abbrev pub axes_by : ℕ → List Float → AxesAnswer
axes_by zero axes = record { refusal = 0; axes = axes }
axes_by (suc k) axes = record { refusal = suc k; axes = zeros }

-- what C is told of an entry for each axis
abbrev pub axes_as : Result (List Float) Refusal → AxesAnswer
axes_as (Ok axes) = record { refusal = 0; axes = axes }
axes_as (Err r) = record { refusal = number r; axes = zeros }

unfoldable pub mul_answer : Arm → ℕ → List Float → AxesAnswer
mul_answer a link accelerations = axes_by (mul_refusal a link accelerations) (of_link (axes_in accelerations) zeros a link)
