-- The links that count, in an arm whose arrays have their lengths: as many as the count says, each the array's own. Assumes nothing.
use Prim.Native.Nat.{ℕ, zero, suc, min, ◌+◌, ◌-◌, ◌≤◌, ◌<◌}
use mathlib.Core.Path.{◌≡◌, refl, sym, ◌∙◌, ap}
use mathlib.Core.Bool.{Bool, true, ◌||◌}
use mathlib.Core.Logic.{inl, inr}
use mathlib.Core.List.{List, [], ◌∷◌, map}
use native.Mathlib.Nat.{eq-zero-or-pos}
use native.Mathlib.Omega.{arith}
use lib.ListN.{length, take, get_or, length-take, length-map}
use lib.Seq.{get_or-take, length-take-le}
use lib.Dec.{eqb}
use Rattle.lists.specs.Tests.{every}
use Rattle.lists.proofs.Every.{every_map}
use Rattle.lists.proofs.Lists.{map-take, map_at}
use Rattle.limits.specs.Limits.{link_limit, dof_limit}
use Rattle.masks.specs.Masks.{dofs_of, dofs_below}
use Rattle.masks.specs.Starts.{total_of, start_of}
use Rattle.masks.proofs.Laws.{below-le, dofs_le}
use Rattle.masks.proofs.Totals.{start_next, start_all, start_in, total_le}
use Rattle.arm.specs.declared.Link.{Link}
use Rattle.arm.specs.declared.Arm.{Arm}
use Rattle.arm.specs.declared.Row.{Row}
use Rattle.floats.specs.Floats.{all_finite}
use Rattle.arm.specs.Inner.{row_finite}
use Rattle.arm.specs.Arm.{live_links, links_of, locked_of, parent_of, tag_of, tags_of, parents_of, masks_of, mask_at, start_at, dof_count_of, entries_to, rows_of}
use Rattle.arm.specs.HandedIn.{root_mask_fits, rows_finite}

-- whatever the arrays are, no more count than fit
pub links_le : (a : Arm) → length (links_of a) ≤ link_limit
unfolding links_of
links_le a = simp length-take (omega arith)

pub masks_le : (a : Arm) → length (masks_of a) ≤ link_limit
unfolding masks_of links_of
masks_le a = simp (length-map, length-take) (omega arith)

pub dof_count_le : (a : Arm) → dof_count_of a ≤ dof_limit
unfolding dof_count_of
dof_count_le a = omega (arith, total_le (masks_of a), masks_le a)

module _ (a : Arm) (whole : length a.links ≡ link_limit) where
  pub live_fits : live_links a ≤ length a.links
  live_fits = omega arith

  pub links_live : length (links_of a) ≡ live_links a
  unfolding links_of
  links_live = length-take-le (live_links a) a.links live_fits

  pub masks_live : length (masks_of a) ≡ live_links a
  unfolding masks_of
  masks_live = length-map (links_of a) locked_of ∙ links_live

  pub tags_live : length (tags_of a) ≡ live_links a
  unfolding tags_of
  tags_live = length-map (links_of a) tag_of ∙ links_live

  pub parents_live : length (parents_of a) ≡ live_links a
  unfolding parents_of
  parents_live = length-map (links_of a) parent_of ∙ links_live

  -- the mask of a link that counts
  pub mask_there : (i : ℕ) (d : Link) → i < live_links a → (get_or a.links i d).joint.locked ≡ mask_at a i
  unfolding mask_at masks_of links_of
  mask_there i d h =
      sym (map_at locked_of (take (live_links a) a.links) i d 7 (omega (arith, length-take-le (live_links a) a.links live_fits))
      ∙ ap locked_of (get_or-take (live_links a) a.links i d h))

  -- a turn of a loop that sums the DoFs
  pub start_more : (i : ℕ) (s r : ℕ) (d : Link) → i < live_links a → s ≡ start_at a i → r ≡ dofs_of (get_or a.links i d).joint.locked
      → s + r ≡ start_at a (i + 1)
  unfolding start_at mask_at
  start_more i s r d h p q =
      let e : (get_or a.links i d).joint.locked ≡ mask_at a i = mask_there i d h in
      let z : dofs_of (get_or a.links i d).joint.locked ≡ dofs_of (get_or (masks_of a) i 7) = ap dofs_of e in
      omega (arith, start_next (masks_of a) i 7 (omega (arith, masks_live)))

  -- at any count that is no less, the start is the whole
  pub start_whole : (i : ℕ) → live_links a ≤ i → start_at a i ≡ dof_count_of a
  unfolding start_at dof_count_of
  start_whole i h = start_all (masks_of a) i (omega (arith, masks_live))

  -- a link's entries lie within the DoF count
  pub part_within : (i : ℕ) → i < live_links a → start_at a i + dofs_of (mask_at a i) ≤ dof_count_of a
  unfolding start_at mask_at dof_count_of
  part_within i h = start_in (masks_of a) i 7 (omega (arith, masks_live))

  -- what the fronts of the arrays of all tags, masks and parents are
  pub tags_front : take (live_links a) (map tag_of a.links) ≡ tags_of a
  unfolding tags_of links_of
  tags_front = map-take tag_of (live_links a) a.links

  pub masks_front : take (live_links a) (map locked_of a.links) ≡ masks_of a
  unfolding masks_of links_of
  masks_front = map-take locked_of (live_links a) a.links

  pub parents_front : take (live_links a) (map parent_of a.links) ≡ parents_of a
  unfolding parents_of links_of
  parents_front = map-take parent_of (live_links a) a.links

-- what an arm's arrays of tags and parents say of the links that count
module _ (a : Arm) (whole : length a.links ≡ link_limit) (ls : List Link) (counted : ls ≡ links_of a) where
  pub tags_counted : (ts : List ℕ) → ts ≡ map tag_of a.links → take (length ls) ts ≡ tags_of a
  tags_counted ts e = rw (counted, e, links_live a whole) (tags_front a whole)

  pub parents_counted : (ps : List ℕ) → ps ≡ map parent_of a.links → take (length ls) ps ≡ parents_of a
  parents_counted ps e = rw (counted, e, links_live a whole) (parents_front a whole)

-- past the end of a list of masks, all are counted
pub start_fewer : (ms : List ℕ) (link i : ℕ) → i ≡ min link (length ms) → start_of ms i ≡ start_of ms link
start_fewer ms link i e = elim (eq-zero-or-pos (link - length ms)) [
  | inl l ↦ let s : i ≡ link = omega arith in ap (start_of ms) s
  | inr l ↦ start_all ms i (omega arith) ∙ sym (start_all ms link (omega arith))
]

-- the rows' test, up to the DoF count
pub rows_tested : (a : Arm) (n : ℕ) (r : Bool) → n ≡ dof_count_of a → r ≡ every (row_finite n) a.rows → r ≡ rows_finite a
unfolding rows_finite rows_of row_finite
rows_tested a n r e h =
    h ∙ ap (λ (m : ℕ). every (λ (row : Row). all_finite (entries_to m row)) a.rows) e
    ∙ sym (every_map all_finite (entries_to (dof_count_of a)) a.rows)

-- the start of a link, as the DoFs of the links before it
pub start_taken : (a : Arm) (link n : ℕ) → n ≡ min link (length (links_of a)) → total_of (map locked_of (take n (links_of a))) ≡ start_at a link
unfolding start_at start_of masks_of
start_taken a link n e =
    ap total_of (sym (map-take locked_of n (links_of a)))
    ∙ start_fewer (map locked_of (links_of a)) link n (e ∙ ap (min link) (sym (length-map (links_of a) locked_of)))

pub start_none : (a : Arm) → 0 ≡ start_at a 0
unfolding start_at start_of total_of
start_none a = refl

-- no start lies past the DoF count
pub within : (ms : List ℕ) (i : ℕ) → start_of ms i ≤ total_of ms
unfolding start_of total_of
within ms zero = omega arith
within [] (suc i) = omega arith
within (m ∷ ms) (suc i) = omega (arith, within ms i)

pub start_within : (a : Arm) (i : ℕ) → start_at a i ≤ dof_count_of a
unfolding start_at dof_count_of
start_within a i = within (masks_of a) i

pub below_three : (mask axis : ℕ) → dofs_below mask axis ≤ 3
below_three mask axis = omega (arith, below-le mask axis, dofs_le mask)

pub dofs_small : (mask r : ℕ) → r ≡ dofs_of mask → r ≤ 3
dofs_small mask r e = omega (arith, dofs_le mask)

-- ---- the root

pub root_none : (ms : List ℕ) (n : ℕ) → n ≡ 0 → true ≡ root_mask_fits (take n ms)
root_none ms n e = rw e

pub root_some : (ms : List ℕ) (n d : ℕ) → 0 < length ms → (n ≡ 0 → ⊥)
    → (eqb (get_or ms 0 d) 7 || eqb (get_or ms 0 d) 0) ≡ root_mask_fits (take n ms)
root_some ms zero d l h = absurd (h refl)
root_some [] (suc n) d l h = absurd (omega arith)
root_some (m ∷ ms) (suc n) d l h = refl
