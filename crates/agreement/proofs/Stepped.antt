-- Every joint integrated, of arms that agree: arms that agree, since a joint reads as many velocities as it has DoFs; parents and masks stay. Assumes
-- nothing.
use Prim.Native.Nat.{ℕ, ◌+◌, ◌<◌}
use mathlib.Core.Path.{◌≡◌, refl, sym, ap, ap₂, ◌∙◌}
use mathlib.Core.Bool.{Bool, true, false, cond}
use mathlib.Core.List.{List, [], map}
use native.Mathlib.Omega.{arith}
use lib.ListN.{length, take, drop, get_or, get_or-map}
use lib.Seq.{take-nil, get_or-take, get_or-drop}
use lib.Ieee.{Float}
use Rattle.arm.proofs.Relinked.{Standing, map_same}
use Rattle.limits.specs.Limits.{link_limit}
use Rattle.floats.specs.Floats.{zero32, entry_of, plus, times}
use Rattle.masks.specs.Masks.{is_free, dofs_below, dofs_of}
use Rattle.masks.proofs.Laws.{below_free}
use Rattle.multibody_joint.specs.declared.Joint.{Joint}
use Rattle.multibody_joint.specs.Joint.{coordinate_of}
use Rattle.multibody_joint.specs.Motion.{entry_at, integrated_at, integrated}
use Rattle.arm.specs.declared.Link.{Link}
use Rattle.arm.specs.declared.Arm.{Arm}
use Rattle.arm.specs.Arm.{live_links, links_of, parent_of, locked_of, parents_of, masks_of, mask_at, start_at, dof_count_of, entries_to, rows_of, no_link, link_at}
use Rattle.arm.specs.HandedIn.{arm_refusal}
use Rattle.arm.specs.Agree.{Agree}
use Rattle.arm.proofs.Live.{mask_there, part_within}
use Rattle.arm.proofs.Agree.{same_start}
use Rattle.whole_step.specs.Step.{link_integrated, link_after, links_after, velocities_of, arm_after}
use Rattle.whole_step.proofs.Settled.{sized_after, link_at_lem, stands}
use Rattle.agreement.proofs.Worked.{same_link, same_links, agree_relinked, Workable, workable}

-- ---- one joint

module _ (vs ws : List Float) (dt : Float) where
  -- the same velocities, as far as a mask has DoFs
  abbrev SameTo : ℕ → Type 0
  SameTo mask = (k : ℕ) → k < dofs_of mask → entry_of vs k ≡ entry_of ws k

  axis_same : (j : Joint) → SameTo j.locked → (axis : ℕ) → integrated_at j vs dt axis ≡ integrated_at j ws dt axis
  unfolding integrated_at
  axis_same j e axis = go (is_free j.locked axis) refl
    where
      go : (b : Bool) → is_free j.locked axis ≡ b
          → cond b (plus (coordinate_of j axis) (times (entry_at j vs axis) dt)) (coordinate_of j axis)
          ≡ cond b (plus (coordinate_of j axis) (times (entry_at j ws axis) dt)) (coordinate_of j axis)
      go true f = ap (λ (v : Float). plus (coordinate_of j axis) (times v dt)) (e (dofs_below j.locked axis) (below_free j.locked axis f))
      go false f = refl

  link_same : (l : Link) → SameTo l.joint.locked → link_integrated l vs dt ≡ link_integrated l ws dt
  unfolding link_integrated integrated
  link_same l e = rw (axis_same l.joint e 0, axis_same l.joint e 1, axis_same l.joint e 2)

-- ---- an arm's links

module _ (a : Arm) (whole : length a.links ≡ link_limit) (dt : Float) where
  -- its velocities, up to the DoF count
  abbrev vs : List Float
  vs = get_or (rows_of a) 0 []

  row_seen : take (dof_count_of a) (velocities_of a) ≡ get_or (rows_of a) 0 []
  unfolding rows_of velocities_of
  row_seen =
      sym (get_or-map (entries_to (dof_count_of a)) a.rows 0 (record { entries = [] }))
      ∙ ap (get_or (map (entries_to (dof_count_of a)) a.rows) 0) (take-nil (dof_count_of a))

  link_seen : (i : ℕ) → i < live_links a → link_after a (velocities_of a) dt i ≡ link_integrated (link_at a.links i) (drop (start_at a i) (get_or (rows_of a) 0 [])) dt
  unfolding link_after entry_of
  link_seen i h =
      let all = velocities_of a in
      let d = dof_count_of a in
      let at = start_at a i in
      link_same (drop at all) (drop at (take d all)) dt (link_at a.links i) (λ k l.
      let mask : dofs_of (link_at a.links i).joint.locked ≡ dofs_of (mask_at a i) = ap dofs_of (mask_there a whole i no_link h) in
      get_or-drop at all k zero32
      ∙ sym (get_or-take d all (at + k) zero32 (omega (arith, part_within a whole i h)))
      ∙ sym (get_or-drop at (take d all) k zero32))
      ∙ ap (λ (l : List Float). link_integrated (link_at a.links i) (drop at l) dt) row_seen

  parents_stepped : parents_of (arm_after a dt) ≡ parents_of a
  unfolding parents_of arm_after
  parents_stepped = map_same a whole (links_after a (velocities_of a) dt) (sized_after a whole dt) a.rows parent_of (λ j h. ap (λ (s : Standing). s.parent) (stands a whole dt j h))

  masks_stepped : masks_of (arm_after a dt) ≡ masks_of a
  unfolding masks_of arm_after
  masks_stepped = map_same a whole (links_after a (velocities_of a) dt) (sized_after a whole dt) a.rows locked_of (λ j h. ap (λ (s : Standing). s.locked) (stands a whole dt j h))

  places_stepped : length (arm_after a dt).links ≡ link_limit
  unfolding arm_after
  places_stepped = sized_after a whole dt

-- ---- two

module _ (a b : Arm) (p : length a.links ≡ link_limit) (q : length b.links ≡ link_limit) (g : Agree a b) (dt : Float) where
  after_same : (i : ℕ) → i < live_links a → link_after a (velocities_of a) dt i ≡ link_after b (velocities_of b) dt i
  after_same i h =
      let l = same_link a b g i h in
      let v = ap₂ (λ (s : ℕ) (rows : List (List Float)). drop s (get_or rows 0 [])) (same_start a b g i) g.rows in
      link_seen a p dt i h ∙ ap₂ (λ (x : Link) (y : List Float). link_integrated x y dt) l v ∙ sym (link_seen b q dt i (omega (arith, g.link_count)))

  links_same : links_of (arm_after a dt) ≡ links_of (arm_after b dt)
  unfolding arm_after
  links_same =
      same_links (arm_after a dt) (arm_after b dt) g.link_count (sized_after a p dt) (sized_after b q dt) (λ i h.
      link_at_lem a p dt i h ∙ after_same i h ∙ sym (link_at_lem b q dt i (omega (arith, g.link_count))))

  pub agree_stepped : Agree (arm_after a dt) (arm_after b dt)
  unfolding arm_after
  agree_stepped = agree_relinked a b _ _ g (masks_stepped a p dt) links_same

  pub workable_stepped : arm_refusal a ≡ 0 → Workable (arm_after a dt) (arm_after b dt)
  unfolding arm_after
  workable_stepped ok = workable a _ _ ok refl (parents_stepped a p dt) agree_stepped (places_stepped a p dt) (places_stepped b q dt)
