-- What an arm's tests say of it with other links or rows: where tags, parents and masks stay, only floats and angles are left to test. Assumes nothing.
use Prim.Native.Nat.{ℕ, ◌<◌}
use mathlib.Core.Path.{◌≡◌, sym, ap, ◌∙◌}
use mathlib.Core.Bool.{Bool, true, ◌&&◌}
use mathlib.Core.List.{List, map}
use native.Mathlib.Omega.{arith}
use lib.Dec.{leb}
use lib.ListN.{length, take, length-map, get_or-map}
use lib.Seq.{ext_get_or, get_or-take, length-take-le}
use Rattle.arm.specs.Setters.{arm_with, with_links}
use Rattle.arm.proofs.Accepted.{Accepted}
use Rattle.lists.proofs.Every.{every_map, every_at, every_of}
use Rattle.lists.specs.Tests.{every}
use Rattle.limits.specs.Limits.{link_limit}
use Rattle.arm.specs.declared.Link.{Link}
use Rattle.arm.specs.declared.Row.{Row}
use Rattle.arm.specs.declared.Arm.{Arm}
use Rattle.arm.specs.Arm.{live_links, links_of, couplings_of, tag_of, parent_of, locked_of, tags_of, parents_of, masks_of, dof_count_of, rows_of, no_link, link_at}
use Rattle.arm.specs.HandedIn.{unique, tags_unique, parents_earlier, joint_masks_fit, link_masks_fit, root_mask_fits, root_fits, link_finite, rows_finite, angles_fit}

-- ---- an arm with other links and rows

-- what of a link the tests of numbers read
pub record Standing : Type 0 where
  pub tag : ℕ
  pub parent : ℕ
  pub locked : ℕ
  pub limit : ℕ
  pub motor : ℕ

abbrev pub standing : Link → Standing
standing l = record { tag = l.tag; parent = l.parent; locked = l.joint.locked; limit = l.joint.limit; motor = l.joint.motor }

abbrev pub with_parts : Arm → List Link → List Row → Arm
with_parts a links rows = arm_with a a.link_count a.coupling_count links a.couplings rows

module _ (a : Arm) (sized : length a.links ≡ link_limit) where
  -- a test of every link that counts, link by link
  pub link_passes : (test : Link → Bool) → every test (links_of a) ≡ true → (j : ℕ) → j < live_links a → test (link_at a.links j) ≡ true
  unfolding links_of
  link_passes test e j h =
      sym (ap test (get_or-take (live_links a) a.links j no_link h))
      ∙ every_at test (take (live_links a) a.links) no_link e j (omega (arith, length-take-le (live_links a) a.links (omega arith)))

  pub links_pass : (test : Link → Bool) → ((j : ℕ) → j < live_links a → test (link_at a.links j) ≡ true) → every test (links_of a) ≡ true
  unfolding links_of
  links_pass test f =
      let n = live_links a in
      let l : length (take n a.links) ≡ n = length-take-le n a.links (omega arith) in
      every_of test (take n a.links) no_link (λ j h.
      let k : j < n = omega arith in
      ap test (get_or-take n a.links j no_link k) ∙ f j k)

  module _ (ls : List Link) (sized' : length ls ≡ link_limit) (rows : List Row) where
    abbrev b : Arm
    b = with_parts a ls rows

    -- what agrees link by link
    pub map_same : {A : Type 0} (f : Link → A) → ((j : ℕ) → j < live_links a → f (link_at ls j) ≡ f (link_at a.links j)) → map f (links_of b) ≡ map f (links_of a)
    unfolding links_of
    map_same f e =
        let n = live_links a in
        let l : length (take n ls) ≡ n = length-take-le n ls (omega arith) in
        let l' : length (take n a.links) ≡ n = length-take-le n a.links (omega arith) in
        ext_get_or (f no_link) (map f (take n ls)) (map f (take n a.links)) (length-map (take n ls) f ∙ l ∙ sym (length-map (take n a.links) f ∙ l')) (λ j h.
        let k : j < n = omega (arith, length-map (take n ls) f) in
        get_or-map f (take n ls) j no_link
        ∙ ap f (get_or-take n ls j no_link k)
        ∙ e j k
        ∙ sym (get_or-map f (take n a.links) j no_link ∙ ap f (get_or-take n a.links j no_link k)))

    pub tags_stay : ((j : ℕ) → j < live_links a → tag_of (link_at ls j) ≡ tag_of (link_at a.links j)) → tags_unique b ≡ tags_unique a
    unfolding tags_unique tags_of
    tags_stay e = ap unique (map_same tag_of e)

    pub parents_stay : ((j : ℕ) → j < live_links a → parent_of (link_at ls j) ≡ parent_of (link_at a.links j)) → parents_earlier b ≡ parents_earlier a
    unfolding parents_earlier parents_of
    parents_stay e = rw (map_same parent_of e)

    pub every_stays : (test : Link → Bool) → ((j : ℕ) → j < live_links a → test (link_at ls j) ≡ test (link_at a.links j)) → every test (links_of b) ≡ every test (links_of a)
    every_stays test e =
        sym (every_map (λ (y : Bool). y) test (links_of b)) ∙ ap (every (λ (y : Bool). y)) (map_same test e) ∙ every_map (λ (y : Bool). y) test (links_of a)

  -- the same rows, tags, parents and masks: floats and angles of the links are left
  module _ (ls : List Link) (sized' : length ls ≡ link_limit) (same : (j : ℕ) → j < live_links a → standing (link_at ls j) ≡ standing (link_at a.links j)) where
    abbrev c : Arm
    c = with_links a ls

    masks_same : masks_of c ≡ masks_of a
    unfolding masks_of
    masks_same = map_same ls sized' a.rows locked_of (λ j h. ap (λ (s : Standing). s.locked) (same j h))

    masks_stay : every link_masks_fit (links_of c) ≡ every link_masks_fit (links_of a)
    unfolding joint_masks_fit
    masks_stay = every_stays ls sized' a.rows link_masks_fit (λ j h. ap (λ (s : Standing). (leb s.locked 7 && leb s.limit 7) && leb s.motor 7) (same j h))

    root_stays : root_fits c ≡ root_fits a
    unfolding root_fits
    root_stays = ap root_mask_fits masks_same

    rows_stay : rows_finite c ≡ rows_finite a
    unfolding rows_finite rows_of dof_count_of
    rows_stay = rw masks_same

    pub still_accepted : Accepted a → every link_finite (links_of c) ≡ true → angles_fit c ≡ true → Accepted c
    unfolding couplings_of
    still_accepted k f g = record {
      counts = k.counts;
      tags = tags_stay ls sized' a.rows (λ j h. ap (λ (s : Standing). s.tag) (same j h)) ∙ k.tags;
      parents = parents_stay ls sized' a.rows (λ j h. ap (λ (s : Standing). s.parent) (same j h)) ∙ k.parents;
      coupled = k.coupled;
      masks = masks_stay ∙ k.masks;
      root = root_stays ∙ k.root;
      axes = k.axes;
      links = f;
      couplings = k.couplings;
      rows = rows_stay ∙ k.rows;
      angles = g;
    }
