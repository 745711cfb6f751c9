-- The whole step (`integrate` of the multibody): every joint is integrated by one dt, then the arm is worked out in full.
use Rattle.std.specs.Prelude.{ℕ, Bool, List, [], ◌∷◌, ◌++◌, drop, get_or, Float}
use Rattle.arm.specs.Setters.{with_links, with_joint}
use Rattle.lists.specs.Tests.{every}
use Rattle.lists.specs.Numbers.{each}
use Rattle.refusal.specs.Refusal.{unless_of, lowest}
use Rattle.floats.specs.Floats.{is_finite}
use Rattle.multibody_joint.specs.Motion.{integrated}
use Rattle.arm.specs.declared.Link.{Link}
use Rattle.arm.specs.declared.RowName.TheVariants.{Velocities}
use Rattle.arm.specs.declared.Arm.{Arm}
use Rattle.arm.specs.Arm.{live_links, links_of, start_at, row_number, link_at}
use Rattle.multibody_joint.specs.Joint.{joint_finite}
use Rattle.arm.specs.HandedIn.{angles_fit, arm_refusal}
use Rattle.full_working.specs.Outcome.{Outcome, unless_refused, tables_fit, worked_all}

-- ---- every joint integrated

-- one link, whose velocities are the front of a row
unfoldable pub link_integrated : Link → List Float → Float → Link
link_integrated l velocities dt = with_joint l (integrated l.joint velocities dt)

-- link i of an arm: its joint is handed the velocities from the link's start onward
unfoldable pub link_after : Arm → List Float → Float → ℕ → Link
link_after a velocities dt i = link_integrated (link_at a.links i) (drop (start_at a i) velocities) dt

-- every link that counts; the others stay
unfoldable pub links_after : Arm → List Float → Float → List Link
links_after a velocities dt = each (live_links a) (link_after a velocities dt) ++ drop (live_links a) a.links

unfoldable pub velocities_of : Arm → List Float
velocities_of a = (get_or a.rows (row_number Velocities) (record { entries = [] })).entries

-- the arm with every joint integrated, and nothing worked out
unfoldable pub arm_after : Arm → Float → Arm
arm_after a dt = with_links a (links_after a (velocities_of a) dt)

-- ---- the step

abbrev pub link_joint_finite : Link → Bool
link_joint_finite l = joint_finite l.joint

abbrev pub joints_finite : Arm → Bool
joints_finite a = every link_joint_finite (links_of a)

-- from an arm to one whose joints are integrated. 9: an angle lies beyond 256; 12: what a joint came to isn't finite
unfoldable pub step_refusal : Arm → Arm → List Float → Float → ℕ
step_refusal a new t dt =
    lowest
    (unless_of (tables_fit t) 1
    ∷ unless_of (is_finite dt) 7
    ∷ unless_of (angles_fit new) 9
    ∷ arm_refusal a
    ∷ unless_of (joints_finite new) 12
    ∷ [])

unfoldable pub whole_step : Arm → List Float → Float → Outcome
whole_step a t dt =
    let new = arm_after a dt in
    unless_refused (step_refusal a new t dt) a t (worked_all a new t)
