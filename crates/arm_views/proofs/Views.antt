-- A row view, accepted or refused, from what its parts give: an accepted one's part lies within both rows. Assumes nothing.
use native.Mathlib.Decide.{dec_lt}
use borrow.Author.Tests.{leb-true}
use lib.Ieee.{Float}
use Rattle.std.proofs.Common.{ℕ, ◌+◌, ◌-◌, ◌≤◌, ◌≡◌, ◌∙◌, refl, ap, inl, ◌&&◌, List, length, take, drop, get_or, leb, arith, Result, Ok, Err, Bor}
use Rattle.std.proofs.lemmas.List.{get_or_past}
use Rattle.std.specs.Result.{IsErrAnd}
use Rattle.lists.proofs.Bools.{both_hold}
use Rattle.refusal.specs.declared.Refusal.{Refusal}
use Rattle.refusal.specs.Refusal.{code}
use Rattle.refusal.proofs.Answers.{passed, refused}
use Rattle.refusal.proofs.Number.{number-suc}
use Rattle.refusal.proofs.Laws.{holds_in}
use Rattle.limits.specs.Limits.{dof_limit}
use Rattle.masks.specs.Masks.{dofs_of}
use Rattle.masks.proofs.Laws.{fixed_dofs}
use Rattle.masks.proofs.Totals.{start_in, start_all}
use Rattle.arm.specs.declared.Arm.{Arm}
use Rattle.arm.specs.Arm.{masks_of, mask_at, start_at, dof_count_of, own_part}
use Rattle.arm.proofs.Live.{dof_count_le}
use Rattle.arm_views.specs.declared.Role.{Role}
use Rattle.arm_views.specs.declared.Role.TheVariants.{Velocities, Accelerations}
use Rattle.arm_views.specs.View.{seen, seen_as, row_of, view_entries, view_refusal, view_by, view_answer}

-- a link's entries end within the DoF count; a number that is no link has none
part_ends : (a : Arm) (i : ℕ) → start_at a i + dofs_of (mask_at a i) ≤ dof_count_of a
unfolding start_at mask_at dof_count_of
part_ends a i = elim (dec_lt i (length (masks_of a))) [
  | yes l ↦ start_in (masks_of a) i 7 l
  | no l ↦
      let e : dofs_of (get_or (masks_of a) i 7) ≡ 0 = ap dofs_of (get_or_past (masks_of a) i 7 (omega arith)) ∙ fixed_dofs in
      omega (arith, start_all (masks_of a) i (omega arith))
]

-- the part's end lies within both rows
pub record Within (a : Arm) (link v w : ℕ) : Type 0 where
  pub fits : start_at a link + dofs_of (mask_at a link) ≤ dof_limit
  pub first : start_at a link + dofs_of (mask_at a link) ≤ v
  pub second : start_at a link + dofs_of (mask_at a link) ≤ w

pub view_within : (a : Arm) (link v w : ℕ) → view_refusal a link v w ≡ 0 → Within a link v w
unfolding view_refusal
view_within a link v w e =
    let both = both_hold _ _ (holds_in (view_entries a link v w) e (leb (dof_count_of a) v && leb (dof_count_of a) w) 0 (inl refl)) in
    let part = part_ends a link in
    let h₁ = leb-true (dof_count_of a) v both.0 in
    let h₂ = leb-true (dof_count_of a) w both.1 in
    record { fits = omega (arith, dof_count_le a); first = omega arith; second = omega arith }

-- the part, as it is cut out
pub own_part_lem : (a : Arm) (link : ℕ) (row : List Float) (s d m : ℕ) → s ≡ start_at a link → d ≡ dofs_of m → m ≡ mask_at a link
    → take ((s + d) - s) (drop s row) ≡ own_part a link row
unfolding own_part
own_part_lem a link row s d m p q r =
    let e : (s + d) - s ≡ d = omega arith in
    rw (e, p, q, r)

module _ {A : Type 0} {t : Result A Refusal} (a : Arm) (role : Role) (link : ℕ) (v w : List Float) (k : code t ≡ view_refusal a link (length v) (length w)) where
  pub seen_exit : {e : Refusal} → t ≡ Err e → (r : Result (Bor (List Float)) Refusal) → IsErrAnd r (λ y. y ≡ e) → seen_as r ≡ view_answer a role link v w
  unfolding view_answer view_by
  seen_exit p (Ok b) q = absurd q
  seen_exit p (Err y) q = rw (q, refused p k, number-suc _)

  -- the part of an accepted view lies within the row that is asked for, and is what the definition says
  module _ {x : A} (p : t ≡ Ok x) (s d m : ℕ) (starts : s ≡ start_at a link) (count : d ≡ dofs_of m) (mask : m ≡ mask_at a link) where
    pub view_fits : s + d ≤ dof_limit
    view_fits = let h = view_within a link (length v) (length w) (passed p k) in rw (starts, count, mask) h.fits

    pub view_room : s + d ≤ length (row_of role v w)
    view_room =
        let h = view_within a link (length v) (length w) (passed p k) in
        rw (starts, count, mask) (either role h.first h.second)
      where
        either : (o : Role) {n : ℕ} → n ≤ length v → n ≤ length w → n ≤ length (row_of o v w)
        either Velocities f g = f
        either Accelerations f g = g

    pub seen_read : (row : List Float) → row ≡ row_of role v w → seen (take ((s + d) - s) (drop s row)) 0 ≡ view_answer a role link v w
    unfolding view_answer view_by
    seen_read row e = rw (passed p k, e) (ap (λ (part : List Float). seen part 0) (own_part_lem a link (row_of role v w) s d m starts count mask))
