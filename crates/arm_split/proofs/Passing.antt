-- A part of an accepted arm passes every test of an arm handed in: its first link is a head, every other one's parent is earlier, and what is kept passed
-- before. Assumes nothing.
use Prim.Native.Nat.{ℕ, zero, suc, min, ◌≤◌, ◌<◌}
use mathlib.Core.Path.{◌≡◌, refl, sym, ap, ap₂, ◌∙◌}
use mathlib.Core.Bool.{Bool, true, false, cond, ◌&&◌}
use mathlib.Core.List.{List, [], ◌∷◌, ◌++◌, map}
use native.Mathlib.Omega.{arith}
use borrow.Author.Tests.{le-leb, lt-ltb}
use lib.Dec.{leb}
use lib.ListN.{length, take, drop, get_or, length-map}
use lib.Seq.{take_at, get_or-take, length-take-le}
use lib.Ieee.{Float, lt, of_bits}
use Rattle.arm.proofs.Relinked.{link_passes}
use Rattle.arm.proofs.Accepted.{Accepted, accepted, not-refused}
use Rattle.arm.specs.Empty.{blank_row}
use Rattle.arm.specs.Sized.{Sized}
use Rattle.lists.proofs.Gathered.{chosen_le, length-chosen}
use Rattle.lists.specs.Lists.{laid}
use Rattle.lists.proofs.Parts.{take_drop_take}
use Rattle.lists.proofs.Every.{every_at, every_drop, every_join, every_take}
use Rattle.lists.proofs.Lists.{map_at}
use Rattle.lists.specs.Tests.{every}
use Rattle.lists.proofs.Numbers.{count_lt, count_at, all_below_lem}
use Rattle.lists.specs.Numbers.{each, count_below, chosen}
use Rattle.lists.proofs.Bools.{both_hold, both}
use Rattle.limits.specs.Limits.{link_limit, coupling_limit, dof_limit}
use Rattle.floats.specs.Floats.{all_finite, is_finite}
use Rattle.floats.proofs.FiniteRows.{zeros_finite}
use Rattle.masks.specs.Masks.{dofs_of}
use Rattle.masks.specs.Starts.{total_of, start_of}
use Rattle.masks.proofs.Totals.{start_in}
use Rattle.topology.specs.declared.Split.{Split}
use Rattle.topology.specs.Parents.{parent_fits, parents_fit, parent_in}
use Rattle.topology.specs.Split.{is_head, is_in, number_of}
use Rattle.topology.proofs.Theorems.{with_parent, in_part}
use Rattle.planar.specs.declared.Pose.{Pose}
use Rattle.planar.specs.Rotation.{is_beyond}
use Rattle.planar.specs.Poses.{finite_rotation, finite_point, finite_pose, rotation_of, translation_of}
use Rattle.std.specs.Float.{float_is_finite}
use Rattle.multibody_joint.specs.Joint.{fixed_joint, new_joint, joint_finite}
use Rattle.arm.specs.declared.Link.{Link}
use Rattle.arm.specs.declared.Coupling.{Coupling}
use Rattle.arm.specs.declared.Row.{Row}
use Rattle.arm.specs.declared.Arm.{Arm}
use Rattle.arm.specs.Arm.{live_links, links_of, couplings_of, tag_of, locked_of, tags_of, parents_of, masks_of, mask_at, start_at, dof_count_of, entries_to, rows_of, link_at, own_part}
use Rattle.arm.specs.Arm.{no_link, no_coupling, coupling_at, parent_of}
use Rattle.arm.specs.HandedIn.{unique, tags_unique, parents_earlier, coupling_links_fit, joint_masks_fit, link_masks_fit, root_mask_fits, root_fits, coupling_axes_fit}
use Rattle.arm.specs.HandedIn.{link_finite, coupling_finite, rows_finite, angle_fits, link_angle_fits, arm_refusal}
use Rattle.arm.proofs.Live.{links_live, masks_live, parents_live}
use Rattle.part_arm.specs.Places.{Places, places_of, goes_on}
use Rattle.part_arm.specs.Part.{new_link, part_links, part_entries, part_row, coupling_stays, new_coupling, part_couplings, part_arm}
use Rattle.arm_split.specs.Words.{PartPasses}
use Rattle.arm_split.proofs.Heads.{in_survives, head_first, first_head}
use Rattle.arm_split.proofs.Same.{gathered_same}
use Rattle.arm_split.proofs.Refused.{Whole, accepted_whole}
use Rattle.arm_split.proofs.Chosen.{link_parent, coupling_links}
use Rattle.arm_split.proofs.Picked.{every_gathered, every_chosen, chosen_at, map-chosen, some_unique, is_each}

-- ---- one link, one coupling

new_tag : (b : Bool) (parent : ℕ) (l : Link) → (new_link b parent l).tag ≡ l.tag
unfolding new_link
new_tag true parent l = refl
new_tag false parent l = refl

new_parent : (parent : ℕ) (l : Link) → (new_link false parent l).parent ≡ parent
unfolding new_link
new_parent parent l = refl

head_parent : (parent : ℕ) (l : Link) → (new_link true parent l).parent ≡ 0
unfolding new_link
head_parent parent l = refl

head_locked : (parent : ℕ) (l : Link) → (new_link true parent l).joint.locked ≡ 7
unfolding new_link fixed_joint new_joint
head_locked parent l = refl

new_masks : (b : Bool) (parent : ℕ) (l : Link) → link_masks_fit l ≡ true → link_masks_fit (new_link b parent l) ≡ true
unfolding new_link fixed_joint joint_masks_fit new_joint
new_masks true parent l e = refl
new_masks false parent l e = e

fixed_finite : (p : Pose) → finite_pose p ≡ true → joint_finite (fixed_joint p) ≡ true
unfolding fixed_joint joint_finite finite_rotation finite_point finite_pose rotation_of translation_of of_bits new_joint float_is_finite
fixed_finite p e = both (both (both (both (both e refl) refl) refl) refl) refl

new_finite : (b : Bool) (parent : ℕ) (l : Link) → link_finite l ≡ true → link_finite (new_link b parent l) ≡ true
unfolding new_link link_finite
new_finite true parent l e =
    let q = both_hold _ (finite_point l.shift23) e in
    let r = both_hold _ (finite_point l.shift02) q.0 in
    let s = both_hold _ (finite_pose l.world) r.0 in
    let t = both_hold (joint_finite l.joint) (finite_point l.centre) s.0 in
    both (both (both (both (fixed_finite l.world s.1) t.1) s.1) r.1) q.1
new_finite false parent l e = e

new_angle : (b : Bool) (parent : ℕ) (l : Link) → link_angle_fits l ≡ true → link_angle_fits (new_link b parent l) ≡ true
unfolding new_link fixed_joint angle_fits is_beyond lt of_bits new_joint
new_angle true parent l e = refl
new_angle false parent l e = e

root_seven : (ms : List ℕ) → (0 < length ms → get_or ms 0 7 ≡ 7) → root_mask_fits ms ≡ true
root_seven [] h = refl
root_seven (m ∷ ms) h = rw (h (omega arith))

-- ---- a part's lists

front_all : {A : Type 0} (xs ys : List A) (n : ℕ) → length xs ≤ n → take (min (length xs) n) (xs ++ ys) ≡ xs
front_all xs ys n h = let e : min (length xs) n ≡ length xs = omega arith in rw e (take_at xs ys (length xs) refl)

module _ (p : Places) (a : Arm) where
  pub links_few : length (part_links p a) ≤ live_links a
  unfolding part_links
  links_few = chosen_le p.here _ (live_links a)

  couplings_few : length (part_couplings p a) ≤ coupling_limit
  unfolding part_couplings
  couplings_few = omega (arith, chosen_le (λ i. coupling_stays p (coupling_at a i)) (λ i. new_coupling p.number (coupling_at a i)) (min a.coupling_count coupling_limit))

  pub part_links_lem : links_of (part_arm p a) ≡ part_links p a
  unfolding links_of part_arm
  part_links_lem = front_all (part_links p a) _ link_limit (omega (arith, links_few))

  part_couplings_lem : couplings_of (part_arm p a) ≡ part_couplings p a
  unfolding couplings_of part_arm
  part_couplings_lem = front_all (part_couplings p a) _ coupling_limit couplings_few

module _ (a : Arm) (s : Split) (k : ℕ) (sized : Sized a) (taken : arm_refusal a ≡ 0) where
  abbrev p : Places
  p = places_of a s k

  abbrev ps : List ℕ
  ps = parents_of a

  abbrev n : ℕ
  n = live_links a

  abbrev at : ℕ → Link
  at j = link_at a.links j

  abbrev link_for : ℕ → Link
  link_for j = new_link (is_head ps s j) (number_of ps s (at j).parent) (at j)

  whole : Whole a sized.links s
  whole = accepted_whole a sized.links s taken

  long : length ps ≡ n
  long = parents_live a sized.links

  before : Accepted a
  before = accepted a taken

  link_list : part_links p a ≡ chosen n (is_in ps s k) link_for
  unfolding part_links
  link_list = refl

  link_count : length (part_links p a) ≡ count_below n (is_in ps s k)
  link_count = ap length link_list ∙ length-chosen (is_in ps s k) link_for n

  number_is : (j : ℕ) → is_in ps s k j ≡ true → number_of ps s j ≡ count_below j (is_in ps s k)
  unfolding number_of
  number_is j e = ap (λ (q : ℕ). count_below j (is_in ps s q)) (in_part ps s k j e)

  -- who stands at a place of the part
  record Stands (i : ℕ) : Type 0 where
    old : ℕ
    there : old < n
    here : is_in ps s k old ≡ true
    number : number_of ps s old ≡ i
    link : (d : Link) → get_or (part_links p a) i d ≡ link_for old

  stands : (i : ℕ) → i < length (part_links p a) → Stands i
  stands i h =
      let r = count_at (is_in ps s k) n i (omega (arith, link_count)) in
      record {
        old = r.0;
        there = r.1;
        here = r.2;
        number = number_is r.0 r.2 ∙ r.3;
        link = λ d. ap₂ (λ (l : List Link) (m : ℕ). get_or l m d) link_list (sym r.3) ∙ chosen_at (is_in ps s k) link_for n r.0 d r.1 r.2;
      }

  -- each old link passed
  old_passes : (test : Link → Bool) → every test (links_of a) ≡ true → (j : ℕ) → j < n → test (at j) ≡ true
  old_passes test e j h = link_passes a sized.links test e j h

  new_passes : (test : Link → Bool) → ((b : Bool) (parent : ℕ) (l : Link) → test l ≡ true → test (new_link b parent l) ≡ true) → every test (links_of a) ≡ true
      → every test (links_of (part_arm p a)) ≡ true
  new_passes test keeps e =
      rw (part_links_lem p a, link_list) (every_chosen test n (is_in ps s k) link_for (λ j h q. keeps (is_head ps s j) _ (at j) (old_passes test e j h)))

  -- ---- 2 and 3

  counts : (leb (length (part_links p a)) link_limit && leb (length (part_couplings p a)) coupling_limit) ≡ true
  counts = both (le-leb (length (part_links p a)) link_limit (omega (arith, links_few p a))) (le-leb (length (part_couplings p a)) coupling_limit (couplings_few p a))

  old_at : {A : Type 0} (f : Link → A) (d : A) (j : ℕ) → j < n → get_or (map f (links_of a)) j d ≡ f (at j)
  unfolding links_of
  old_at f d j h =
      map_at f (take n a.links) j no_link d (omega (arith, length-take-le n a.links (omega (arith, sized.links))))
      ∙ ap f (get_or-take n a.links j no_link h)

  old_tags : map tag_of (links_of a) ≡ each n (λ j. tag_of (at j))
  old_tags = is_each (map tag_of (links_of a)) n (λ j. tag_of (at j)) 0 (length-map (links_of a) tag_of ∙ links_live a sized.links) (old_at tag_of 0)

  new_tags : map tag_of (chosen n (is_in ps s k) link_for) ≡ chosen n (is_in ps s k) (λ j. tag_of (at j))
  new_tags =
      map-chosen (is_in ps s k) link_for tag_of n
      ∙ gathered_same n _ _ (λ j h. ap (λ (x : ℕ). cond (is_in ps s k j) (x ∷ []) []) (new_tag (is_head ps s j) (number_of ps s (at j).parent) (at j)))

  tags : tags_unique (part_arm p a) ≡ true
  unfolding tags_unique tags_of
  tags =
      ap (λ (l : List Link). unique (map tag_of l)) (part_links_lem p a ∙ link_list)
      ∙ ap unique new_tags
      ∙ some_unique (is_in ps s k) (λ j. tag_of (at j)) n (ap unique (sym old_tags) ∙ before.tags)

  -- ---- 4

  fits_first : (i parent : ℕ) → i ≡ 0 → parent ≡ 0 → parent_fits i parent ≡ true
  unfolding parent_fits
  fits_first zero parent e q = rw q
  fits_first (suc i) parent e q = absurd (omega arith)

  fits_later : (i parent : ℕ) → parent < i → parent_fits i parent ≡ true
  unfolding parent_fits
  fits_later zero parent h = absurd (omega arith)
  fits_later (suc i) parent h = lt-ltb parent (suc i) h

  parent_fits_lem : (i : ℕ) → i < length (part_links p a) → parent_fits i (get_or (part_links p a) i no_link).parent ≡ true
  parent_fits_lem i h =
      let o = stands i h in
      let e = ap (λ (l : Link). l.parent) (o.link no_link) in
      go o (is_head ps s o.old) refl e
    where
      go : (o : Stands i) (b : Bool) → is_head ps s o.old ≡ b → (get_or (part_links p a) i no_link).parent ≡ (link_for o.old).parent → parent_fits i (get_or (part_links p a) i no_link).parent ≡ true
      go o true q e =
          fits_first i _ (sym o.number ∙ head_first ps s whole.fit o.old (omega (arith, o.there, long)) q)
          (e ∙ rw q (head_parent _ (at o.old)))
      go o false q e =
          let v = with_parent ps s whole.fit o.old (omega (arith, o.there, long), in_survives ps s whole.fit k o.old o.here) q in
          let up : (get_or (part_links p a) i no_link).parent ≡ number_of ps s (parent_in ps o.old) = e
          ∙ rw (q, link_parent a sized.links o.old o.there) (new_parent _ (at o.old)) in
          fits_later i _ (omega (arith, v.greater, o.number, up))

  parents : parents_earlier (part_arm p a) ≡ true
  unfolding parents_earlier parents_of parents_fit
  parents =
      rw (part_links_lem p a)
      (all_below_lem _ _ (λ i h.
      let l : i < length (part_links p a) = omega (arith, length-map (part_links p a) parent_of) in
      ap (parent_fits i) (map_at parent_of (part_links p a) i no_link 0 l) ∙ parent_fits_lem i l))

  -- a coupling that stays names links of the part
  stays_here : (c : Coupling) → coupling_stays p c ≡ true → (is_in ps s k c.link1 ≡ true) × (is_in ps s k c.link2 ≡ true)
  unfolding coupling_stays
  stays_here c e =
      let h = both_hold (goes_on p c.link1) (goes_on p c.link2) e in
      ((both_hold _ _ h.0).0, (both_hold _ _ h.1).0)

  below : (j : ℕ) → j < n → is_in ps s k j ≡ true → number_of ps s j < length (part_links p a)
  below j h e = omega (arith, number_is j e, link_count, count_lt (is_in ps s k) j n h e)

  coupling_fits : (i : ℕ) → i < min a.coupling_count coupling_limit → coupling_stays p (coupling_at a i) ≡ true
      → coupling_links_fit (length (part_links p a)) (new_coupling (number_of ps s) (coupling_at a i)) ≡ true
  unfolding coupling_links_fit new_coupling
  coupling_fits i h e =
      let l = coupling_links a sized.links taken i h (omega (arith, sized.couplings)) in
      let q = stays_here (coupling_at a i) e in
      both (lt-ltb _ _ (below (coupling_at a i).link1 (omega (arith, whole.few)) q.0)) (lt-ltb _ _ (below (coupling_at a i).link2 (omega (arith, whole.few)) q.1))

  -- a test that a coupling's new numbers leave alone
  couplings_pass : (test : Coupling → Bool)
      → ((i : ℕ) → i < min a.coupling_count coupling_limit → coupling_stays p (coupling_at a i) ≡ true
      → test (new_coupling (number_of ps s) (coupling_at a i)) ≡ true)
      → every test (couplings_of (part_arm p a)) ≡ true
  unfolding part_couplings
  couplings_pass test f =
      rw (part_couplings_lem p a)
      (every_chosen test (min a.coupling_count coupling_limit) (λ i. coupling_stays p (coupling_at a i)) (λ i. new_coupling (number_of ps s) (coupling_at a i)) f)

  -- each old coupling passed
  coupling_passed : (test : Coupling → Bool) → every test (couplings_of a) ≡ true → (i : ℕ) → i < min a.coupling_count coupling_limit → test (coupling_at a i) ≡ true
  unfolding couplings_of
  coupling_passed test e i h =
      let m = min a.coupling_count coupling_limit in
      sym (ap test (get_or-take m a.couplings i no_coupling h))
      ∙ every_at test (take m a.couplings) no_coupling e i (omega (arith, length-take-le m a.couplings (omega (arith, sized.couplings))))

  -- ---- 5

  root : root_fits (part_arm p a) ≡ true
  unfolding root_fits masks_of
  root =
      rw (part_links_lem p a)
      (root_seven (map locked_of (part_links p a)) (λ h.
      let l : 0 < length (part_links p a) = omega (arith, length-map (part_links p a) locked_of) in
      map_at locked_of (part_links p a) 0 no_link 7 l ∙ first l))
    where
      first : 0 < length (part_links p a) → (get_or (part_links p a) 0 no_link).joint.locked ≡ 7
      first l =
          let o = stands 0 l in
          let z : is_head ps s o.old ≡ true = sym (first_head ps s whole.fit o.old (omega (arith, o.there, long), in_survives ps s whole.fit k o.old o.here)) ∙ rw o.number in
          ap locked_of (o.link no_link) ∙ rw z (head_locked _ (at o.old))

  axes : (i : ℕ) → coupling_axes_fit (new_coupling (number_of ps s) (coupling_at a i)) ≡ coupling_axes_fit (coupling_at a i)
  unfolding coupling_axes_fit new_coupling
  axes i = refl

  -- ---- 7

  coefficients : (i : ℕ) → coupling_finite (new_coupling (number_of ps s) (coupling_at a i)) ≡ coupling_finite (coupling_at a i)
  unfolding coupling_finite new_coupling
  coefficients i = refl

  own_finite : (entries : List Float) → all_finite (take (dof_count_of a) entries) ≡ true → (j : ℕ) → j < n → all_finite (own_part a j entries) ≡ true
  unfolding own_part dof_count_of start_at mask_at
  own_finite entries e j h =
      let m = masks_of a in
      let fits = start_in m j 7 (omega (arith, masks_live a sized.links)) in
      ap all_finite (sym (take_drop_take (start_of m j) (dofs_of (get_or m j 7)) (total_of m) entries fits))
      ∙ every_take is_finite (dofs_of (get_or m j 7)) (drop (start_of m j) (take (total_of m) entries)) (every_drop is_finite (start_of m j) (take (total_of m) entries) e)

  row-finite : (row : Row) → all_finite (entries_to (dof_count_of a) row) ≡ true → (d : ℕ) → all_finite (entries_to d (part_row p a row)) ≡ true
  unfolding part_row part_entries
  row-finite row e d =
      let kept = part_entries p a row.entries in
      every_take is_finite d (laid kept blank_row.entries)
      (every_join is_finite kept (drop (length kept) blank_row.entries)
      (every_gathered is_finite n (λ j. cond (goes_on p j) (own_part a j row.entries) []) (λ j h. go j h (goes_on p j)))
      (every_drop is_finite (length kept) blank_row.entries (zeros_finite dof_limit)))
    where
      go : (j : ℕ) → j < n → (b : Bool) → all_finite (cond b (own_part a j row.entries) []) ≡ true
      go j h true = own_finite row.entries e j h
      go j h false = refl

  rows_finite_lem : (d : ℕ) (rows : List Row) → every all_finite (map (entries_to (dof_count_of a)) rows) ≡ true → every all_finite (map (entries_to d) (map (part_row p a) rows)) ≡ true
  rows_finite_lem d [] e = refl
  rows_finite_lem d (row ∷ rows) e =
      let h = both_hold (all_finite (entries_to (dof_count_of a) row)) (every all_finite (map (entries_to (dof_count_of a)) rows)) e in
      both (row-finite row h.0 d) (rows_finite_lem d rows h.1)

  rows : rows_finite (part_arm p a) ≡ true
  unfolding rows_finite rows_of part_arm
  rows = rows_finite_lem (dof_count_of (part_arm p a)) a.rows before.rows

  -- ---- all

  part_passes : Accepted (part_arm p a)
  unfolding part_arm
  part_passes = record {
    counts = counts;
    tags = tags;
    parents = parents;
    coupled = couplings_pass (coupling_links_fit (length (part_links p a))) coupling_fits;
    masks = new_passes link_masks_fit new_masks before.masks;
    root = root;
    axes = couplings_pass coupling_axes_fit (λ i h e. axes i ∙ coupling_passed coupling_axes_fit before.axes i h);
    links = new_passes link_finite new_finite before.links;
    couplings = couplings_pass coupling_finite (λ i h e. coefficients i ∙ coupling_passed coupling_finite before.couplings i h);
    rows = rows;
    angles = new_passes link_angle_fits new_angle before.angles;
  }

pub passing : PartPasses
passing a s k sized taken = not-refused (part_arm (places_of a s k) a) (part_passes a s k sized taken)
