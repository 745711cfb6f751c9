-- An arm with a new link that is not refused is accepted: each test is that of the arm, and of the new link. Assumes nothing.
use Prim.Native.Nat.{ℕ, zero, suc, min, ◌+◌, ◌≤◌, ◌<◌}
use mathlib.Core.Path.{◌≡◌, refl, sym, ap, ap₂, ◌∙◌}
use mathlib.Core.Bool.{Bool, true, not, ◌&&◌, ◌||◌}
use mathlib.Core.List.{List, [], ◌∷◌, ◌++◌, map, map-append}
use native.Mathlib.Omega.{arith}
use native.Mathlib.Numerals.{add-one}
use borrow.Author.Tests.{ltb-true, lt-ltb, eqb-false, ne_eqb, le-leb, not-true}
use lib.Dec.{eqb, ltb, leb}
use lib.ListN.{length, take, drop, get_or, set, length-map, length-append, length-replicate, length-drop, get_or-append}
use lib.Seq.{take-suc-set, get_or_at}
use lib.Ieee.{Float}
use Rattle.multibody_joint.specs.Joint.{zeros, new_joint}
use Rattle.arm.specs.Setters.{unplaced}
use Rattle.arm.proofs.Accepted.{Accepted}
use Rattle.arm.specs.Inner.{row_finite}
use Rattle.lists.proofs.Modified.{modify_every}
use Rattle.lists.proofs.Every.{every_map, every_snoc}
use Rattle.lists.specs.Tests.{every}
use Rattle.lists.specs.Numbers.{all_below}
use Rattle.lists.specs.Lists.{laid, modify}
use Rattle.lists.proofs.Bools.{both_hold, both}
use Rattle.limits.specs.Limits.{link_limit, coupling_limit}
use Rattle.floats.specs.Floats.{all_finite, zero32}
use Rattle.masks.specs.Masks.{dofs_of, damping_row}
use Rattle.masks.specs.Starts.{total_of}
use Rattle.masks.proofs.Laws.{dofs_le}
use Rattle.masks.proofs.Totals.{total_snoc}
use Rattle.topology.specs.Parents.{parent_fits, parents_fit, parent_in}
use Rattle.arm.specs.declared.Link.{Link}
use Rattle.arm.specs.declared.Coupling.{Coupling}
use Rattle.arm.specs.declared.Row.{Row}
use Rattle.arm.specs.declared.Arm.{Arm}
use Rattle.arm.specs.Arm.{live_links, links_of, couplings_of, tag_of, locked_of, tags_of, parents_of, masks_of, dof_count_of, entries_to, rows_of, parent_of}
use Rattle.arm.specs.HandedIn.{differs, is_new, unique, tags_unique, parents_earlier, coupling_links_fit, joint_masks_fit, link_masks_fit, root_mask_fits, root_fits, link_finite, rows_finite, link_angle_fits}
use Rattle.arm.proofs.Live.{links_live, masks_live}
use Rattle.addition.specs.declared.NewLink.{NewLink}
use Rattle.addition.specs.NewLink.{link_of, entries_set, rows_with, added_inputs}
use Rattle.addition.specs.Addition.{each_mask, masks_fit}
use Rattle.addition.proofs.Tests.{Passed, are_masks}
use Rattle.floats.proofs.FiniteRows.{zeros_finite}
use Rattle.addition.proofs.Finite.{laid_finite, link_finite_lem, link_within, row-finite, row_before}

-- ---- a list with one more

-- the new tag is none of the others', and so each of them isn't the new one
swapped : (x y : ℕ) → differs x y ≡ true → differs y x ≡ true
swapped x y e = ap not (ne_eqb x y (λ q. eqb-false y x (not-true (eqb y x) e) (sym q)))

unique_snoc : (ts : List ℕ) (tag : ℕ) → unique ts ≡ true → is_new tag ts ≡ true → unique (ts ++ (tag ∷ [])) ≡ true
unfolding unique
unique_snoc [] tag e h = refl
unique_snoc (t ∷ ts) tag e h =
    let p = both_hold (is_new t ts) (unique ts) e in
    let q = both_hold (differs tag t) (is_new tag ts) h in
    both (every_snoc (differs t) ts tag p.0 (swapped tag t q.0)) (unique_snoc ts tag p.1 q.1)

fits_snoc : (ps : List ℕ) (p : ℕ) → parents_fit ps ≡ true → parent_fits (length ps) p ≡ true → parents_fit (ps ++ (p ∷ [])) ≡ true
unfolding parents_fit all_below
fits_snoc ps p e h =
    let n : length (ps ++ (p ∷ [])) ≡ suc (length ps) = length-append ps (p ∷ []) ∙ add-one (length ps) in
    ap (λ (k : ℕ). all_below k (λ j. parent_fits j (parent_in (ps ++ (p ∷ [])) j))) n
    ∙ both (front (length ps) (λ j q. get_or-append ps (p ∷ []) 0 j q) ∙ e) (ap (parent_fits (length ps)) (get_or_at ps p [] 0 (length ps) refl) ∙ h)
  where
    front : (m : ℕ) → ((j : ℕ) → j < m → parent_in (ps ++ (p ∷ [])) j ≡ parent_in ps j)
        → all_below m (λ j. parent_fits j (parent_in (ps ++ (p ∷ [])) j)) ≡ all_below m (λ j. parent_fits j (parent_in ps j))
    front zero f = refl
    front (suc m) f = ap₂ ◌&&◌ (front m (λ j q. f j (omega arith))) (ap (parent_fits m) (f m (omega arith)))

-- a coupling's links are below a greater count too
coupled_more : (n : ℕ) (cs : List Coupling) → every (coupling_links_fit n) cs ≡ true → every (coupling_links_fit (n + 1)) cs ≡ true
unfolding coupling_links_fit
coupled_more n [] e = refl
coupled_more n (c ∷ cs) e =
    let p = both_hold (coupling_links_fit n c) (every (coupling_links_fit n) cs) e in
    let q = both_hold (ltb c.link1 n) (ltb c.link2 n) p.0 in
    let l₁ = ltb-true c.link1 n q.0 in
    let l₂ = ltb-true c.link2 n q.1 in
    both (both (lt-ltb c.link1 (n + 1) (omega arith)) (lt-ltb c.link2 (n + 1) (omega arith))) (coupled_more n cs p.1)

-- the root is the first, or the new one where there was none
root_snoc : (ms : List ℕ) (m : ℕ) → root_mask_fits ms ≡ true → (length ms ≡ 0 → (eqb m 7 || eqb m 0) ≡ true) → root_mask_fits (ms ++ (m ∷ [])) ≡ true
root_snoc [] m e h = h refl
root_snoc (x ∷ ms) m e h = e

-- ---- three places are enough for a mask's entries

pub zeros_enough : (mask : ℕ) → dofs_of mask ≤ length zeros
zeros_enough mask = omega (arith, dofs_le mask, length-replicate 3 zero32)

pub laid_enough : (mask : ℕ) → dofs_of mask ≤ length (laid (damping_row mask) zeros)
laid_enough mask =
    let row = damping_row mask in
    omega (arith, length-append row (drop (length row) zeros), length-drop (length row) zeros, dofs_le mask, length-replicate 3 zero32)

-- ---- the arm with the new link

module _ (a : Arm) (sized : length a.links ≡ link_limit) (t : List Float) (new : NewLink) (k : Passed a t new) (ok : Accepted a) where
  abbrev n : ℕ
  n = a.link_count

  abbrev l : Link
  l = link_of new

  abbrev added : Arm
  added = added_inputs a new

  live : live_links a ≡ n
  live = omega (arith, k.room)

  pub links_added : links_of (added_inputs a new) ≡ links_of a ++ (link_of new ∷ [])
  unfolding links_of added_inputs
  links_added =
      let m : min (n + 1) link_limit ≡ suc n = omega (arith, k.room) in
      ap (λ (i : ℕ). take i (set a.links n l)) m
      ∙ take-suc-set a.links n l (omega (arith, k.room))
      ∙ ap (λ (i : ℕ). take i a.links ++ (l ∷ [])) (sym live)

  pub mapped : {B : Type 0} (f : Link → B) → map f (links_of (added_inputs a new)) ≡ map f (links_of a) ++ (f (link_of new) ∷ [])
  mapped f = ap (map f) links_added ∙ map-append f (links_of a) (l ∷ [])

  each : (test : Link → Bool) → every test (links_of a) ≡ true → test (link_of new) ≡ true → every test (links_of (added_inputs a new)) ≡ true
  each test e h = ap (every test) links_added ∙ every_snoc test (links_of a) l e h

  count_length : length (links_of a) ≡ n
  count_length = links_live a sized ∙ live

  tags : tags_unique (added_inputs a new) ≡ true
  unfolding tags_unique tags_of link_of unplaced new_joint
  tags = ap unique (mapped tag_of) ∙ unique_snoc (tags_of a) new.tag ok.tags k.tag

  parents : parents_earlier (added_inputs a new) ≡ true
  unfolding parents_earlier parents_of link_of unplaced new_joint
  parents =
      ap parents_fit (mapped parent_of)
      ∙ fits_snoc (parents_of a) new.parent ok.parents (ap (λ (i : ℕ). parent_fits i new.parent) (length-map (links_of a) parent_of ∙ count_length) ∙ k.parent)

  masks : link_masks_fit (link_of new) ≡ true
  unfolding joint_masks_fit link_of unplaced new_joint
  masks = are_masks n new k.masks

  root_mask_lem : (i : ℕ) → i ≡ 0 → masks_fit i new ≡ true → (eqb new.locked 7 || eqb new.locked 0) ≡ true
  unfolding masks_fit
  root_mask_lem zero h e = (both_hold (each_mask new) (eqb new.locked 7 || eqb new.locked 0) e).1
  root_mask_lem (suc i) h e = absurd (omega arith)

  root : root_fits (added_inputs a new) ≡ true
  unfolding root_fits masks_of link_of unplaced new_joint
  root = ap root_mask_fits (mapped locked_of) ∙ root_snoc (masks_of a) new.locked ok.root (λ z. root_mask_lem n (sym (masks_live a sized ∙ live) ∙ z) k.masks)

  -- ---- its rows

  abbrev d : ℕ
  d = dof_count_of a

  abbrev m : ℕ
  m = dofs_of new.locked

  pub dofs_added : dof_count_of (added_inputs a new) ≡ dof_count_of a + dofs_of new.locked
  unfolding dof_count_of masks_of link_of unplaced new_joint
  dofs_added = ap total_of (mapped locked_of) ∙ total_snoc (masks_of a) new.locked

  zeroed : (rows : List Row) → every (row_finite d) rows ≡ true → every (row_finite (d + m)) (map (entries_set d m zeros) rows) ≡ true
  zeroed [] e = refl
  zeroed (row ∷ rows) e =
      let p = both_hold (row_finite d row) (every (row_finite d) rows) e in
      both (row-finite d m zeros (zeros_enough new.locked) (zeros_finite 3) row p.0) (zeroed rows p.1)

  damped : (rows : List Row) → every (row_finite (d + m)) rows ≡ true → every (row_finite (d + m)) (modify (entries_set d m (laid (damping_row new.locked) zeros)) 1 rows) ≡ true
  damped rows e =
      let values = laid (damping_row new.locked) zeros in
      let none : Row = record { entries = [] } in
      modify_every (entries_set d m values) (row_finite (d + m)) 1 rows none e (λ h.
      row-finite d m values (laid_enough new.locked) (laid_finite new.locked) (get_or rows 1 none)
      (row_before d m values (laid_enough new.locked) (laid_finite new.locked) (get_or rows 1 none) h))

  rows : rows_finite (added_inputs a new) ≡ true
  unfolding rows_finite rows_of added_inputs rows_with row_finite
  rows =
      ap (λ (i : ℕ). every all_finite (map (entries_to i) (rows_with a new.locked))) dofs_added
      ∙ every_map all_finite (entries_to (d + m)) (rows_with a new.locked)
      ∙ damped _ (zeroed a.rows (sym (every_map all_finite (entries_to d) a.rows) ∙ ok.rows))

  pub still_ok : Accepted (added_inputs a new)
  unfolding couplings_of added_inputs
  still_ok = record {
    counts = both (le-leb (n + 1) link_limit (omega (arith, k.room))) (both_hold (leb n link_limit) (leb a.coupling_count coupling_limit) ok.counts).1;
    tags = tags;
    parents = parents;
    coupled = coupled_more n (couplings_of a) ok.coupled;
    masks = each link_masks_fit ok.masks masks;
    root = root;
    axes = ok.axes;
    links = each link_finite ok.links (link_finite_lem new k.floats);
    couplings = ok.couplings;
    rows = rows;
    angles = each link_angle_fits ok.angles (link_within new);
  }
