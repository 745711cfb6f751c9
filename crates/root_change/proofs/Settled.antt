-- The promises of the root change: the new root's joint is one that an arm handed in may have, and the rows' entries that count are those that counted, or
-- +0; so the new arm is one that the full working takes. Assumes nothing.
use Prim.Native.Nat.{ℕ, zero, suc, ◌+◌, ◌-◌, ◌≤◌, ◌<◌}
use mathlib.Core.Path.{◌≡◌, refl, sym, ap, ap₂, ◌∙◌, subst}
use mathlib.Core.Bool.{Bool, true, false, cond, ◌&&◌, ◌||◌, true≢false}
use mathlib.Core.Logic.{◌⊎◌, inl, inr}
use mathlib.Core.List.{List, [], ◌∷◌, ◌++◌, map}
use native.Mathlib.Omega.{arith}
use borrow.Author.Tests.{ltb-true, eqb-true}
use lib.Dec.{eqb, ltb}
use lib.ListN.{length, take, drop, get_or, replicate}
use lib.Seq.{take-take}
use lib.Ieee.{Float, nan, of_bits, lt}
use Rattle.arm.proofs.Relinked.{link_passes, links_pass, tags_stay, parents_stay}
use Rattle.arm.proofs.Accepted.{Accepted, accepted, not-refused}
use Rattle.lists.proofs.Modified.{length-modify, modify_same, modify_other}
use Rattle.lists.proofs.Every.{every_map, every_at, every_of, every_take}
use Rattle.lists.specs.Tests.{every}
use Rattle.lists.specs.Lists.{modify}
use Rattle.lists.proofs.Bools.{both_hold, both}
use Rattle.limits.specs.Limits.{link_limit, dof_limit}
use Rattle.refusal.specs.Refusal.{unless_of}
use Rattle.refusal.proofs.Laws.{is_lowest, holds_in}
use Rattle.floats.specs.Floats.{zero32, is_finite, all_finite}
use Rattle.floats.proofs.FiniteRows.{zero-finite, zeros_finite}
use Rattle.masks.specs.Masks.{dofs_of}
use Rattle.masks.specs.Starts.{total_of}
use Rattle.masks.proofs.Laws.{fixed_dofs, free_dofs}
use Rattle.planar.specs.declared.Pose.{Pose}
use Rattle.planar.specs.Rotation.{is_beyond}
use Rattle.planar.specs.Poses.{rotation_of, translation_of, is_turn, finite_rotation, finite_point, finite_pose}
use Rattle.multibody_joint.specs.declared.Joint.{Joint}
use Rattle.multibody_joint.specs.Joint.{free_joint, fixed_joint, free_pos_set, with_frames, new_joint, joint_finite}
use Rattle.arm.specs.declared.Link.{Link}
use Rattle.arm.specs.declared.Row.{Row}
use Rattle.arm.specs.declared.Arm.{Arm}
use Rattle.arm.specs.Arm.{live_links, links_of, couplings_of, tag_of, parent_of, locked_of, masks_of, dof_count_of, entries_to, rows_of, link_at, no_link}
use Rattle.std.specs.Float.{float_is_finite}
use Rattle.arm.specs.HandedIn.{joint_masks_fit, link_masks_fit, root_mask_fits, root_fits, link_finite, rows_finite, angle_fits, link_angle_fits, angles_fit, arm_refusal}
use Rattle.arm.proofs.Live.{dof_count_le}
use Rattle.full_working.specs.Outcome.{tables_fit}
use Rattle.full_working.proofs.Again.{call_settles, call_keeps, call_joint}
use Rattle.root_change.specs.declared.Root.{Root}
use Rattle.root_change.specs.declared.Root.TheVariants.{Free, Fixed}
use Rattle.root_change.specs.Root.{locked_by, root_pose, root_joint, root_link, widened, narrowed, root_row, root_mask, root_rows, root_changed, root_refusal, changed_root}
use Rattle.root_change.specs.Promises.{RootSettles, RootKeeps}

-- ---- the joint

-- a root is fixed or free
abbrev pub is_root_mask : ℕ → Bool
is_root_mask locked = eqb locked 7 || eqb locked 0

abbrev pub Kind : ℕ → Type 0
Kind locked = is_root_mask locked ≡ true

-- the root's mask, by what an arm handed in is tested for
pub root_kind : (a : Arm) → length a.links ≡ link_limit → (a.link_count ≡ 0 → ⊥) → is_root_mask (link_at a.links 0).joint.locked ≡ root_fits a
unfolding root_fits masks_of links_of
root_kind a w h = first a.links (live_links a) (omega arith) (omega arith)
  where
    first : (ls : List Link) (n : ℕ) → 0 < n → 0 < length ls → is_root_mask (link_at ls 0).joint.locked ≡ root_mask_fits (map locked_of (take n ls))
    first [] n p l = absurd (omega arith)
    first (x ∷ ls) zero p l = absurd (omega arith)
    first (x ∷ ls) (suc n) p l = refl

pub kind_by : (root : Root) → Kind (locked_by root)
kind_by (Free p) = refl
kind_by (Fixed p) = refl

-- what holds of each of the four joints holds of the root's
by_type : (P : Joint → Type 0) (root : Root) (j : Joint) → let p = root_pose root in
    P (free_pos_set j p) → P (with_frames j p j.frame2) → P (free_joint p) → P (fixed_joint p) → P (root_joint root j)
unfolding root_joint
by_type P (Free p) j a b c d = go (eqb j.locked 0)
  where
    go : (s : Bool) → P (cond s (free_pos_set j p) (free_joint p))
    go true = a
    go false = c
by_type P (Fixed p) j a b c d = go (eqb j.locked 7)
  where
    go : (s : Bool) → P (cond s (with_frames j p j.frame2) (fixed_joint p))
    go true = b
    go false = d

pub kinds : (locked : ℕ) → Kind locked → (locked ≡ 7) ⊎ (locked ≡ 0)
kinds locked k = go (eqb locked 7) refl (eqb locked 0) refl k
  where
    go : (b : Bool) → eqb locked 7 ≡ b → (c : Bool) → eqb locked 0 ≡ c → (b || c) ≡ true → (locked ≡ 7) ⊎ (locked ≡ 0)
    go true e c f h = inl (eqb-true locked 7 e)
    go false e true f h = inr (eqb-true locked 0 f)
    go false e false f h = absurd (true≢false (sym h))

pub root_locked : (root : Root) (j : Joint) → (root_joint root j).locked ≡ locked_by root
unfolding root_joint free_pos_set free_joint fixed_joint new_joint
root_locked (Free p) j = go (eqb j.locked 0) refl
  where
    go : (s : Bool) → eqb j.locked 0 ≡ s → (cond s (free_pos_set j p) (free_joint p)).locked ≡ 0
    go true e = eqb-true j.locked 0 e
    go false e = refl
root_locked (Fixed p) j = go (eqb j.locked 7) refl
  where
    go : (s : Bool) → eqb j.locked 7 ≡ s → (cond s (with_frames j p j.frame2) (fixed_joint p)).locked ≡ 7
    go true e = eqb-true j.locked 7 e
    go false e = refl

module _ (root : Root) (j : Joint) where
  abbrev p : Pose
  p = root_pose root

  masks_fit_lem : joint_masks_fit j ≡ true → joint_masks_fit (root_joint root j) ≡ true
  unfolding joint_masks_fit free_pos_set free_joint fixed_joint new_joint
  masks_fit_lem h = by_type (λ (k : Joint). joint_masks_fit k ≡ true) root j h h refl refl

  angle_stays : angle_fits j ≡ true → angle_fits (root_joint root j) ≡ true
  unfolding angle_fits is_beyond lt of_bits free_pos_set free_joint fixed_joint new_joint
  angle_stays h = by_type (λ (k : Joint). angle_fits k ≡ true) root j h h refl refl

  finite_stays : length j.coordinates ≡ 3 → finite_pose p ≡ true → joint_finite j ≡ true → joint_finite (root_joint root j) ≡ true
  unfolding joint_finite finite_pose finite_rotation finite_point rotation_of translation_of of_bits free_pos_set free_joint fixed_joint new_joint float_is_finite
  finite_stays three f h =
      let turn = both_hold (is_finite p.re && is_finite p.im) (is_finite p.x && is_finite p.y) f in
      let place = both_hold (is_finite p.x) (is_finite p.y) turn.1 in
      let rest = both_hold _ (all_finite j.rest) h in
      let stiffness = both_hold _ (all_finite j.stiffness) rest.0 in
      let rotation = both_hold _ (finite_rotation j.rotation) stiffness.0 in
      let coordinates = both_hold _ (all_finite j.coordinates) rotation.0 in
      let frames = both_hold (finite_pose j.frame1) (finite_pose j.frame2) coordinates.0 in
      let kept = both (third j.coordinates three coordinates.1) refl in
      by_type (λ (k : Joint). joint_finite k ≡ true) root j
      (both (both (both (both coordinates.0 (both place.0 (both place.1 kept))) turn.0) stiffness.1) rest.1)
      (both (both (both (both (both f frames.1) coordinates.1) rotation.1) stiffness.1) rest.1)
      (both (both (both (both refl (both place.0 (both place.1 refl))) turn.0) refl) refl)
      (both (both (both (both (both f refl) refl) refl) refl) refl)
    where
      third : (xs : List Float) → length xs ≡ 3 → all_finite xs ≡ true → is_finite (get_or xs 2 nan) ≡ true
      third [] l e = absurd (omega arith)
      third (x ∷ []) l e = absurd (omega arith)
      third (x ∷ y ∷ []) l e = absurd (omega arith)
      third (x ∷ y ∷ z ∷ xs) l e = (both_hold (is_finite z) _ (both_hold (is_finite y) _ (both_hold (is_finite x) _ e).1).1).0

  three_stay : length j.coordinates ≡ 3 → length (root_joint root j).coordinates ≡ 3
  unfolding free_pos_set free_joint fixed_joint new_joint
  three_stay h = by_type (λ (k : Joint). length k.coordinates ≡ 3) root j refl h refl refl

-- ---- a row

append_finite : (n : ℕ) (xs ys : List Float) → all_finite (take n xs) ≡ true → all_finite ys ≡ true → all_finite (take n (xs ++ ys)) ≡ true
append_finite zero xs ys e f = refl
append_finite (suc n) [] ys e f = every_take is_finite (suc n) ys f
append_finite (suc n) (x ∷ xs) ys e f = let q = both_hold (is_finite x) (all_finite (take n xs)) e in both q.0 (append_finite n xs ys q.1 f)

drop-finite : (n : ℕ) (xs : List Float) → all_finite (take (suc (suc (suc n))) xs) ≡ true → all_finite (take n (drop 3 xs)) ≡ true
drop-finite n [] e = every_take is_finite n [] refl
drop-finite n (x ∷ []) e = every_take is_finite n [] refl
drop-finite n (x ∷ y ∷ []) e = every_take is_finite n [] refl
drop-finite n (x ∷ y ∷ z ∷ xs) e = (both_hold (is_finite z) _ (both_hold (is_finite y) _ (both_hold (is_finite x) _ e).1).1).1

abbrev finite_to : ℕ → Row → Bool
finite_to n row = all_finite (take n row.entries)

-- n DoFs behind the root's
module _ (n : ℕ) (row : Row) where
  wider_finite : n ≤ dof_limit - 3 → all_finite (take n row.entries) ≡ true → all_finite (take (suc (suc (suc n))) (widened row).entries) ≡ true
  unfolding widened
  wider_finite h e =
      both zero-finite (both zero-finite (both zero-finite (ap all_finite (take-take n (dof_limit - 3) row.entries h) ∙ e)))

  narrower_finite : all_finite (take (suc (suc (suc n))) row.entries) ≡ true → all_finite (take n (narrowed row).entries) ≡ true
  unfolding narrowed
  narrower_finite e = append_finite n (drop 3 row.entries) (replicate 3 zero32) (drop-finite n row.entries e) (zeros_finite 3)

  -- from each type to each
  row-finite : (from to : ℕ) → Kind from → Kind to → dofs_of to + n ≤ dof_limit → all_finite (take (dofs_of from + n) row.entries) ≡ true
      → all_finite (take (dofs_of to + n) (root_row from to row).entries) ≡ true
  unfolding root_row
  row-finite from to kf kt = elim (kinds from kf) [
    | inl f7 ↦ elim (kinds to kt) [ inl t7 ↦ at f7 t7 (λ h e. e) | inr t0 ↦ at f7 t0 wider ]
    | inr f0 ↦ elim (kinds to kt) [ inl t7 ↦ at f0 t7 narrower | inr t0 ↦ at f0 t0 (λ h e. e) ]
  ]
    where
      Shifts : ℕ → ℕ → Type 0
      Shifts k m = dofs_of m + n ≤ dof_limit → all_finite (take (dofs_of k + n) row.entries) ≡ true → all_finite (take (dofs_of m + n) (root_row k m row).entries) ≡ true

      at : {k m : ℕ} → from ≡ k → to ≡ m → Shifts k m → Shifts from to
      at {k} {m} e f s = subst (λ (x : ℕ). Shifts x to) (sym e) (subst (λ (y : ℕ). Shifts k y) (sym f) s)

      wider : Shifts 7 0
      wider h e =
          let m : dofs_of 0 + n ≡ suc (suc (suc n)) = omega (arith, free_dofs) in
          let o : n ≡ dofs_of 7 + n = omega (arith, fixed_dofs) in
          ap (λ (k : ℕ). all_finite (take k (widened row).entries)) m ∙ wider_finite (omega (arith, free_dofs)) (ap (λ (k : ℕ). all_finite (take k row.entries)) o ∙ e)

      narrower : Shifts 0 7
      narrower h e =
          let m : dofs_of 7 + n ≡ n = omega (arith, fixed_dofs) in
          let o : suc (suc (suc n)) ≡ dofs_of 0 + n = omega (arith, free_dofs) in
          ap (λ (k : ℕ). all_finite (take k (narrowed row).entries)) m ∙ narrower_finite (ap (λ (k : ℕ). all_finite (take k row.entries)) o ∙ e)

-- ---- the arm

-- the DoFs behind the first link's
abbrev behind_first : ℕ → List Link → ℕ
behind_first n [] = 0
behind_first n (l ∷ ls) = total_of (map locked_of (take n ls))

first_total : (n : ℕ) (ls : List Link) → 0 < length ls → total_of (map locked_of (take (suc n) ls)) ≡ dofs_of (link_at ls 0).joint.locked + behind_first n ls
unfolding total_of
first_total n [] h = absurd (omega arith)
first_total n (l ∷ ls) h = refl

-- the first of a list changed
module _ (f : Link → Link) where
  behind_stays : (n : ℕ) (ls : List Link) → behind_first n (modify f 0 ls) ≡ behind_first n ls
  unfolding modify
  behind_stays n [] = refl
  behind_stays n (l ∷ ls) = refl

module _ (a : Arm) (sized : length a.links ≡ link_limit) (three : length (link_at a.links 0).joint.coordinates ≡ 3) (to : Root) (some : 0 < a.link_count)
    (finite : finite_pose (root_pose to) ≡ true) (old : arm_refusal a ≡ 0) where
  abbrev locked : ℕ
  locked = locked_by to

  abbrev change : Link → Link
  change = root_link to

  abbrev ls : List Link
  ls = modify change 0 a.links

  abbrev new : Arm
  new = root_changed a to

  was : Accepted a
  was = accepted a old

  sized_after : length ls ≡ link_limit
  sized_after = length-modify change 0 a.links ∙ sized

  root_at : link_at ls 0 ≡ change (link_at a.links 0)
  root_at = modify_same change 0 a.links no_link (omega arith)

  -- what the change leaves of the root, every link keeps
  view_stays : {A : Type 0} (g : Link → A) → g (change (link_at a.links 0)) ≡ g (link_at a.links 0) → (j : ℕ) → j < live_links a → g (link_at ls j) ≡ g (link_at a.links j)
  view_stays g e zero h = ap g root_at ∙ e
  view_stays g e (suc j) h = ap g (modify_other change 0 (suc j) a.links no_link (λ e. omega arith))

  -- what the new root passes, every link passes
  test_stays : (test : Link → Bool) → every test (links_of a) ≡ true → (test (link_at a.links 0) ≡ true → test (change (link_at a.links 0)) ≡ true) → (j : ℕ)
      → j < live_links a → test (link_at ls j) ≡ true
  test_stays test e f zero h = ap test root_at ∙ f (link_passes a sized test e 0 h)
  test_stays test e f (suc j) h = ap test (modify_other change 0 (suc j) a.links no_link (λ e. omega arith)) ∙ link_passes a sized test e (suc j) h

  abbrev root : Joint
  root = (link_at a.links 0).joint

  was_kind : Kind (root_mask a)
  was_kind = root_kind a sized (λ z. omega arith) ∙ was.root

  new_mask_lem : (link_at ls 0).joint.locked ≡ locked
  unfolding root_link
  new_mask_lem = ap (λ (l : Link). l.joint.locked) root_at ∙ root_locked to root

  masks_after : every link_masks_fit (links_of new) ≡ true
  unfolding root_changed root_link
  masks_after = links_pass new sized_after link_masks_fit (test_stays link_masks_fit was.masks (masks_fit_lem to root))

  root_after : root_fits new ≡ true
  unfolding root_changed
  root_after = sym (root_kind new sized_after (λ z. omega arith)) ∙ ap is_root_mask new_mask_lem ∙ kind_by to

  angles_after : angles_fit new ≡ true
  unfolding root_changed root_link
  angles_after = links_pass new sized_after link_angle_fits (test_stays link_angle_fits was.angles (angle_stays to root))

  link_finite_lem : link_finite (link_at a.links 0) ≡ true → link_finite (change (link_at a.links 0)) ≡ true
  unfolding root_link link_finite
  link_finite_lem h =
      let l = link_at a.links 0 in
      let s23 = both_hold _ (finite_point l.shift23) h in
      let s02 = both_hold _ (finite_point l.shift02) s23.0 in
      let world = both_hold _ (finite_pose l.world) s02.0 in
      let own = both_hold (joint_finite root) (finite_point l.centre) world.0 in
      both (both (both (both (finite_stays to root three finite own.0) own.1) world.1) s02.1) s23.1

  -- the DoFs behind the root's stay
  abbrev n : ℕ
  n = behind_first (live_links a - 1) a.links

  dofs_were : dof_count_of a ≡ dofs_of (root_mask a) + n
  unfolding dof_count_of masks_of links_of
  dofs_were = let e : live_links a ≡ suc (live_links a - 1) = omega arith in ap (λ (k : ℕ). total_of (map locked_of (take k a.links))) e ∙ first_total (live_links a - 1) a.links (omega arith)

  dofs_after : dof_count_of new ≡ dofs_of locked + n
  unfolding dof_count_of masks_of links_of root_changed
  dofs_after =
      let e : live_links a ≡ suc (live_links a - 1) = omega arith in
      ap (λ (k : ℕ). total_of (map locked_of (take k ls))) e
      ∙ first_total (live_links a - 1) ls (omega (arith, sized_after))
      ∙ ap₂ (λ (x y : ℕ). x + y) (ap dofs_of new_mask_lem) (behind_stays change (live_links a - 1) a.links)

  rows_after : rows_finite new ≡ true
  unfolding rows_finite rows_of root_changed root_rows
  rows_after =
      let g = root_row (root_mask a) locked in
      every_map all_finite (entries_to (dof_count_of new)) (map g a.rows)
      ∙ every_map (finite_to (dof_count_of new)) g a.rows
      ∙ every_of (λ (r : Row). finite_to (dof_count_of new) (g r)) a.rows (record { entries = [] }) (λ j h.
      let r = get_or a.rows j (record { entries = [] }) in
      let e : finite_to (dof_count_of a) r ≡ true = every_at (finite_to (dof_count_of a)) a.rows (record { entries = [] })
      (sym (every_map all_finite (entries_to (dof_count_of a)) a.rows) ∙ was.rows) j h in
      ap (λ (k : ℕ). all_finite (take k (g r).entries)) dofs_after
      ∙ row-finite n r (root_mask a) locked was_kind (kind_by to) (omega (arith, dofs_after, dof_count_le new)) (ap (λ (k : ℕ). all_finite (take k r.entries)) (sym dofs_were) ∙ e))

  accepted_after : arm_refusal new ≡ 0
  unfolding root_changed root_link couplings_of
  accepted_after = not-refused new (record {
    counts = was.counts;
    tags = tags_stay a sized ls sized_after (root_rows a to) (view_stays tag_of refl) ∙ was.tags;
    parents = parents_stay a sized ls sized_after (root_rows a to) (view_stays parent_of refl) ∙ was.parents;
    coupled = was.coupled;
    masks = masks_after;
    root = root_after;
    axes = was.axes;
    links = links_pass new sized_after link_finite (test_stays link_finite was.links link_finite_lem);
    couplings = was.couplings;
    rows = rows_after;
    angles = angles_after;
  })

-- ---- the call

module _ (a : Arm) (sized : length a.links ≡ link_limit) (three : length (link_at a.links 0).joint.coordinates ≡ 3) (to : Root) where
  changed : (t : List Float) → root_refusal a t to ≡ 0 → arm_refusal (root_changed a to) ≡ 0
  unfolding root_refusal
  changed t e =
      let p = root_pose to in
      let ks = unless_of (tables_fit t) 1 ∷ unless_of (ltb 0 a.link_count) 4 ∷ unless_of (finite_pose p) 7 ∷ unless_of (is_turn (rotation_of p)) 8 ∷ arm_refusal a ∷ [] in
      accepted_after a sized three to
      (ltb-true 0 a.link_count (holds_in ks e (ltb 0 a.link_count) 3 (inr (inl refl))))
      (holds_in ks e (finite_pose p) 6 (inr (inr (inl refl))))
      ((is_lowest ks).none e (arm_refusal a) (inr (inr (inr (inr (inl refl))))))

  new_sized : length (root_changed a to).links ≡ link_limit
  unfolding root_changed
  new_sized = length-modify (root_link to) 0 a.links ∙ sized

  new_three : length (link_at (root_changed a to).links 0).joint.coordinates ≡ 3
  unfolding root_changed root_link
  new_three =
      ap (λ (l : Link). length l.joint.coordinates) (modify_same (root_link to) 0 a.links no_link (omega arith)) ∙ three_stay to (link_at a.links 0).joint three

pub root_settles : RootSettles
unfolding changed_root
root_settles a t to sized three r =
    (call_settles a (root_changed a to) (new_sized a sized three to) t (root_refusal a t to) (changed a sized three to t) r).1

pub root_keeps : RootKeeps
unfolding changed_root
root_keeps a t to sized three settled =
    let sized' = new_sized a sized three to in
    let passes = changed a sized three to t in
    let leaves = call_keeps a (root_changed a to) sized' t (root_refusal a t to) passes sized settled in (
      leaves.0,
      call_joint a (root_changed a to) sized' t (root_refusal a t to) passes (λ (j : Joint). length j.coordinates ≡ 3) 0 three (new_three a sized three to),
      leaves.1,
    )
